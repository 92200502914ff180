-- The sorts in scope and the terms, as code has them.
use Rattle.std.specs.Prelude.{ℕ, zero, suc, ◌≤◌, ◌<◌, List, [], ◌∷◌, Bool, false, ◌≡◌, refl, length, get_or, map, Option, Some, None}
use Rattle.std.proofs.Math.Path.{ap}
use Rattle.std.proofs.Common.{sym, ◌∙◌, arith, subst, eq-eqb, ne_eqb}
use Rattle.std.proofs.lemmas.Option.{some_pair_parts}
use Rattle.lists.specs.Choice.{pick, clash}
use Rattle.number.specs.Reading.{Read, got, fault, and_then, read_number, below, seen}
use Rattle.property.specs.Figures.{term_tags}
use Rattle.property.specs.Formula.{Sort, Term, var, public}
use Rattle.property.specs.Fit.{sort_is, in_scope}
use Rattle.property.specs.Layout.{term_of, term_at}
use Rattle.property.specs.Walk.{saw, variable_of, leaf_of}

-- ── the sorts in scope ──
module _ {E : Type 0} (meaning : E → Sort) where
  pub scope_at : (l : List E) (x : ℕ) (s : Sort) (v : E) → x < length l → in_scope (map meaning l) x s ≡ sort_is (meaning (get_or l x v)) s
  scope_at [] x s v h = absurd (omega arith)
  scope_at (y ∷ l) zero s v h = refl
  scope_at (y ∷ l) (suc x) s v h = scope_at l x s v (omega arith)

  pub scope_out : (l : List E) (x : ℕ) (s : Sort) → length l ≤ x → false ≡ in_scope (map meaning l) x s
  scope_out [] x s h = refl
  scope_out (y ∷ l) zero s h = absurd (omega arith)
  scope_out (y ∷ l) (suc x) s h = scope_out l x s (omega arith)

-- ── a term ──
module _ (file : List ℕ) (at : ℕ) where
  abbrev leaf : Read ℕ → Option (Option ℕ × ℕ)
  leaf r = leaf_of (and_then r (λ t e. and_then (read_number file e) (λ n d. got (term_of t n) d)))

  leaf_got : {t i : ℕ} (r : Read ℕ) → got t i ≡ below file term_tags at → read_number file i ≡ r
      → leaf_of (and_then r (λ n d. got (term_of t n) d)) ≡ leaf_of (term_at file at)
  unfolding term_at
  leaf_got {t} r h k = ap (λ (q : Read ℕ). leaf_of (and_then q (λ n d. got (term_of t n) d))) (sym k) ∙ ap leaf h

  pub term_none : fault ≡ below file term_tags at → None ≡ leaf_of (term_at file at)
  unfolding term_at
  term_none h = ap leaf h

  pub term_cut : {t i : ℕ} → got t i ≡ below file term_tags at → fault ≡ read_number file i → None ≡ leaf_of (term_at file at)
  term_cut h k = leaf_got fault h (sym k)

  pub term_variable : {t i x e : ℕ} → got t i ≡ below file term_tags at → got x e ≡ read_number file i → t ≡ 0 → Some (Some x, e) ≡ leaf_of (term_at file at)
  term_variable {t} {i} {x} {e} h k z =
      ap (λ (b : Bool). leaf_of (got (pick b (var x) (public x)) e)) (sym (eq-eqb t 0 z)) ∙ leaf_got (got x e) h (sym k)

  pub term_name : {t i x e : ℕ} → got t i ≡ below file term_tags at → got x e ≡ read_number file i → (t ≡ 0 → ⊥) → Some (None, e) ≡ leaf_of (term_at file at)
  term_name {t} {i} {x} {e} h k z =
      ap (λ (b : Bool). leaf_of (got (pick b (var x) (public x)) e)) (sym (ne_eqb t 0 z)) ∙ leaf_got (got x e) h (sym k)

-- ── a test of a term, which is given its variable ──
module _ (P : Option ℕ → Bool → Type 0) (q : Term → Bool) (tests : (t : Term) (b : Bool) → P (variable_of t) b → b ≡ q t) where
  pub tested : (r : Read Term) {v : Option ℕ} {e : ℕ} {b : Bool} → Some (v, e) ≡ leaf_of r → P v b → seen q r ≡ saw e b
  tested (got t d) {v} {e} {b} h p =
      let parts : (v ≡ variable_of t) × (e ≡ d) = some_pair_parts v (variable_of t) e d h in
      ap (λ (i : ℕ). saw i (q t)) (sym parts.1) ∙ ap (saw e) (sym (tests t b (subst (λ (w : Option ℕ). P w b) parts.0 p)))
  tested fault h p = clash (cc)

pub untested : (q : Term → Bool) (r : Read Term) → None ≡ leaf_of r → seen q r ≡ None
untested q (got t d) h = clash (cc)
untested q fault h = refl
