-- What the callers of this crate owe: a property that passes under a prepared protocol is one that the judge takes, with the prepared table of
-- arities as it is.
use Rattle.std.specs.Prelude.{ℕ, ◌≤◌, List, length, get_or}
use Rattle.std.proofs.Common.{ap, ◌∙◌, arith}
use Rattle.lists.specs.All.{All}
use Rattle.lists.specs.All.Laws.{all_at, map_all}
use Rattle.protocol.specs.Figures.{symbol_count, most_fact_arity}
use Rattle.protocol.specs.Protocol.{Own, Protocol, fact_arities}
use Rattle.protocol.specs.Protocol.Limits.{OwnWithin}
use Rattle.protocol.specs.Protocol.Exact.{few_arities}
use Rattle.prepared.specs.Prepared.{Body, arities_of}
use Rattle.prepared.specs.Prepared.Laws.{padded_in}
use Rattle.property.specs.Formula.{Formula}
use Rattle.property.specs.Layout.{property}
use Rattle.property.specs.Causes.Laws.{Passing, passing_test}
use Rattle.judge.specs.Tables.{Arities}
use Rattle.judge.specs.Judging.{Property}

abbrev Few : ℕ → Type 0
Few k = k ≤ most_fact_arity

few_all : (os : List Own) → All OwnWithin os → All Few (fact_arities os)
few_all os w =
    let one : Few 1 = omega arith in
    (one, (one, (one, (one, map_all OwnWithin Few (λ (o : Own). o.arity) (λ o h. omega (arith, h.small)) os w))))

pub prepared_arities : {p : List ℕ} {P : Protocol} → Body p P → Arities (arities_of p) (fact_arities P.symbols)
prepared_arities {p} {P} b =
    let few : length (fact_arities P.symbols) ≤ symbol_count = few_arities P.symbols b.within.few_symbols in
    record {
      few = few;
      small = all_at Few 0 (omega arith) (fact_arities P.symbols) (few_all P.symbols b.within.symbols);
      same = λ i l. ap (λ (t : List ℕ). get_or t i 0) b.tabled ∙ padded_in symbol_count (fact_arities P.symbols) i few l;
    }

pub passing_property :
    {p : List ℕ} {P : Protocol} → Body p P → (file : List ℕ) (f : Formula) → Passing (property file (fact_arities P.symbols)) f
    → Property file (arities_of p) (fact_arities P.symbols) f
passing_property {p} {P} b file f h =
    record { arities = prepared_arities b; end = h.end; reads = h.there; fits = passing_test file (fact_arities P.symbols) f h }
