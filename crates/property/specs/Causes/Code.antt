-- What the code answers of a property file.
use Rattle.std.specs.Prelude.{ℕ, ◌≤◌, ◌<◌, List, [], ◌∷◌, map, Bool, true, false, not, cond, ◌≡◌, refl, length}
use Rattle.std.specs.Prelude.{Some, None, Result, Ok}
use Rattle.std.proofs.Common.{ap, sym, ◌∙◌, subst, arith}
use Rattle.lists.specs.Choice.{pick, clash}
use Rattle.lists.specs.All.{All}
use Rattle.rewriting.specs.Table.{Ruling, passed, refused, or_refuse}
use Rattle.rewriting.specs.Answers.{answered}
use Rattle.rewriting.specs.declared.Refusal.{Refusal}
use Rattle.number.specs.Reading.{Read, seen}
use Rattle.number.specs.Reading.Laws.{cut_seen, cut_fault}
use Rattle.term.specs.Arity.{undeclared}
use Rattle.protocol.specs.Figures.{symbol_count}
use Rattle.protocol.specs.Protocol.{Own, Protocol, fact_arities}
use Rattle.protocol.specs.Protocol.Limits.{OwnWithin}
use Rattle.protocol.specs.Protocol.Exact.{few_arities}
use Rattle.prepared.specs.Prepared.{arities_of, Body}
use Rattle.property.specs.Formula.{Formula}
use Rattle.property.specs.Fit.{fit}
use Rattle.property.specs.Walk.{Tabled, saw}
use Rattle.property.specs.Causes.{property_item, fit_ruling, property_ruling}
use Rattle.property.specs.Causes.Laws.{Passing, passed_passing, passing_reads, passing_test}
use Rattle.property.specs.Formula.Limits.{FormulaWithin}
use Rattle.property.specs.Layout.{property}
use Rattle.property.specs.Layout.Exact.{property_form}
use Rattle.property.specs.Reads.{Reads}
use Rattle.property.specs.Reads.Laws.{reads_wider}
use Rattle.octets.specs.Head.{Bytes}

-- ── the table of arities that a prepared protocol has ──
small_arities : (os : List Own) → All OwnWithin os → All (λ a. a < undeclared) (fact_arities os)
small_arities os h = (omega arith, (omega arith, (omega arith, (omega arith, go os h))))
  where
    go : (os : List Own) → All OwnWithin os → All (λ a. a < undeclared) (map (λ o. o.arity) os)
    go [] h = tt
    go (o ∷ os) h = (omega (arith, h.0.small), go os h.1)

pub body_tabled : {p : List ℕ} {P : Protocol} → Body p P → Tabled (arities_of p) (fact_arities P.symbols)
body_tabled {p} {P} b = record {
  tabled = b.tabled;
  few = few_arities P.symbols b.within.few_symbols;
  small = small_arities P.symbols b.within.symbols;
}

-- ── the ruling ──
-- of the formula only that it passes
abbrev pub plainly : Ruling Formula → Ruling (Unit {0})
plainly (passed f) = passed tt
plainly (refused n k) = refused n k

by_fit : (f : Formula) (b : Bool) → fit [] f ≡ b → plainly (fit_ruling f) ≡ pick b (passed tt) (refused 5 0)
by_fit f b h = ap (λ (c : Bool). plainly (or_refuse 5 (cond (not c) (Some 0) None) (passed f))) h ∙ go b
  where
    go : (b : Bool) → plainly (or_refuse 5 (cond (not b) (Some 0) None) (passed f)) ≡ pick b (passed tt) (refused 5 0)
    go true = refl
    go false = refl

module _ (r : Read Formula) where
  abbrev Whole : Ruling (Unit {0})
  Whole = plainly (property_ruling r)

  seen_ruled : {e : ℕ} {b : Bool} → saw e b ≡ seen (fit []) r → pick b (passed tt) (refused 5 0) ≡ Whole
  seen_ruled {e} {b} h =
      cut_seen (fit []) r (sym h) (λ f g c. sym (by_fit f b c) ∙ ap (λ (o : Read Formula). plainly (property_ruling o)) (sym g))

  pub ruled_good : {e : ℕ} {b : Bool} → saw e b ≡ seen (fit []) r → b ≡ true → passed tt ≡ Whole
  ruled_good h z = ap (λ (c : Bool). pick c (passed tt) (refused 5 0)) (sym z) ∙ seen_ruled h

  pub ruled_unfit : {e : ℕ} {b : Bool} → saw e b ≡ seen (fit []) r → b ≡ false → refused 5 0 ≡ Whole
  ruled_unfit h z = ap (λ (c : Bool). pick c (passed tt) (refused 5 0)) (sym z) ∙ seen_ruled h

  pub ruled_fault : None ≡ seen (fit []) r → refused 3 property_item ≡ Whole
  ruled_fault h = ap (λ (o : Read Formula). plainly (property_ruling o)) (sym (cut_fault (fit []) r (sym h)))

-- ── where it is good ──
-- a property to be judged: some formula passes
pub good_passing : (r : Read Formula) (o : Result (Unit {0}) Refusal) → answered o ≡ plainly (property_ruling r) → o ≡ Ok tt → (f : Formula) × Passing r f
good_passing r o h g = go (property_ruling r) refl (sym (ap answered g) ∙ h)
  where
    go : (q : Ruling Formula) → property_ruling r ≡ q → passed tt ≡ plainly q → (f : Formula) × Passing r f
    go (passed f) e i = (f, passed_passing r f e)
    go (refused n k) e i = clash (cc)

-- it is written in the file, under the table of arities that the prepared protocol has; it is within the limits, and its test of 5 holds
pub record Judgeable (table ars file : List ℕ) (f : Formula) : Type 0 where
  pub reads : Reads file table 0 f (length file)
  pub within : FormulaWithin ars f
  pub fits : fit [] f ≡ true

pub passing_judgeable :
    {p : List ℕ} {P : Protocol} → Body p P → (file : List ℕ) → Bytes file → (f : Formula) → Passing (property file (fact_arities P.symbols)) f
    → Judgeable (arities_of p) (fact_arities P.symbols) file f
passing_judgeable {p} {P} b file bytes f h =
    let ars : List ℕ = fact_arities P.symbols in
    let few : length ars ≤ symbol_count = few_arities P.symbols b.within.few_symbols in
    let w = property_form file bytes ars (omega arith) f h.end h.there in
    let there : Reads file ars 0 f (length file) = subst (Reads file ars 0 f) w.2 (passing_reads file ars f h) in
    record {
      reads = subst (λ (l : List ℕ). Reads file l 0 f (length file)) (sym b.tabled) (reads_wider file ars symbol_count few there);
      within = w.0;
      fits = passing_test file ars f h;
    }
