-- Symbol, terms and time variable one behind the other: whatever fact reads there, these are its parts.
use Rattle.judge.specs.Reading.Parts.{tells_fact, arity_small}
use Rattle.judge.specs.Reading.{FactIs, TermsAre}
use native.Mathlib.Omega.{arith}
use Prim.Native.Nat.{ℕ}
use mathlib.Core.Path.{sym, subst}
use Rattle.judge.proofs.reading.read_fact.Goals as goal

pub terms-ts-requires : goal.terms-ts-requires
terms-ts-requires c =
    omega (arith, c.arity-count.ensures, arity_small c.args.arities.now c.read-y.result.value)

pub returns : goal.returns
returns c =
    let e = c.arity-count.ensures in
    subst (λ (k : ℕ). FactIs c.args.file.now c.args.arities.now c.args.at
    (record {
      symbol = c.read-y.result.value;
      count = k;
      time = c.read-t.result.value;
      codes = c.terms-ts.result.codes;
      next = c.read-t.result.next;
    })) (sym e) (tells_fact c.args.file.now c.args.arities.now c.read-y.ensures
    (subst (λ (k : ℕ). TermsAre c.args.file.now c.read-y.result.next k c.terms-ts.result) e c.terms-ts.ensures)
    c.read-t.ensures)
