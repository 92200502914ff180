-- One thing after another: from what was read to its parts, and back.
use Rattle.std.specs.Prelude.{ℕ, Bool, ◌≡◌, refl, Some, None}
use Rattle.std.proofs.Common.{ap}
use Rattle.std.proofs.lemmas.Option.{some_pair_parts}
use Rattle.lists.specs.Choice.{clash}
use Rattle.number.specs.Reading.{Read, got, fault, and_then, seen}

module _ {A B : Type 0} where
  -- a reading in two parts, from its value
  pub cut_got : {C : Type 0} {y : B} {e : ℕ} (r : Read A) (f : A → ℕ → Read B) → and_then r f ≡ got y e → ((x : A) (d : ℕ) → r ≡ got x d → f x d ≡ got y e → C)
      → C
  cut_got (got x d) f h k = k x d refl h
  cut_got fault f h k = clash (cc)

  pub then_got : {x : A} {d : ℕ} (r : Read A) (f : A → ℕ → Read B) → r ≡ got x d → and_then r f ≡ f x d
  then_got {x} {d} r f h = ap (λ (o : Read A). and_then o f) h

  pub then_fault : (r : Read A) (f : A → ℕ → Read B) → r ≡ fault → and_then r f ≡ fault
  then_fault r f h = ap (λ (o : Read A). and_then o f) h

pub then_same : {A : Type 0} (r : Read A) → and_then r (λ x e. got x e) ≡ r
then_same (got x e) = refl
then_same fault = refl

module _ {A B C : Type 0} where
  pub then_then : (r : Read A) (f : A → ℕ → Read B) (g : B → ℕ → Read C) → and_then (and_then r f) g ≡ and_then r (λ x e. and_then (f x e) g)
  then_then (got x e) f g = refl
  then_then fault f g = refl

module _ {A B : Type 0} where
  pub then_ext : (r : Read A) (f g : A → ℕ → Read B) → ((x : A) (e : ℕ) → f x e ≡ g x e) → and_then r f ≡ and_then r g
  then_ext (got x e) f g h = h x e
  then_ext fault f g h = refl

-- what was read, from what code has of it
module _ {A : Type 0} (q : A → Bool) where
  pub cut_seen : {C : Type 0} {e : ℕ} {b : Bool} (r : Read A) → seen q r ≡ Some (e, b) → ((x : A) → r ≡ got x e → q x ≡ b → C) → C
  cut_seen {C} {e} {b} (got x d) h k =
      let parts : (d ≡ e) × (q x ≡ b) = some_pair_parts d e (q x) b h in
      k x (ap (got x) parts.0) parts.1
  cut_seen fault h k = clash (cc)

  pub cut_fault : (r : Read A) → seen q r ≡ None → r ≡ fault
  cut_fault (got x d) h = clash (cc)
  cut_fault fault h = refl

-- two continuations that agree on what was read
module _ {A B : Type 0} where
  pub then_same_at : (r : Read A) (f g : A → ℕ → Read B) → ((x : A) (e : ℕ) → r ≡ got x e → f x e ≡ g x e) → and_then r f ≡ and_then r g
  then_same_at (got x e) f g h = h x e refl
  then_same_at fault f g h = refl
