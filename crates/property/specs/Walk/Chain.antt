-- For crate number: what code has seen of one reading after another, and of several, with a test of each.
use Rattle.std.specs.Prelude.{ℕ, List, [], ◌∷◌, Bool, true, false, not, ◌&&◌, ◌||◌, ◌≡◌, None}
use Rattle.std.proofs.Math.Path.{refl}
use Rattle.std.proofs.Common.{ap, sym, ◌∙◌}
use Rattle.lists.specs.Lists.{any_by, all_by}
use Rattle.number.specs.Reading.{Read, got, fault, and_then, seen}
use Rattle.number.specs.Reading.Laws.{cut_seen, cut_fault}
use Rattle.property.specs.Walk.{Saw, saw, also}

-- ── one after another: the test of what is made of both is the two tests ──
module _ {A B C : Type 0} (s : A → Bool) (t : A → B → Bool) (u : C → Bool) (make : A → B → C) (split : (x : A) (y : B) → u (make x y) ≡ (s x && t x y))
    (p : Read A) (q : A → ℕ → Read B) where
  abbrev pub chain : Read C
  chain = and_then p (λ x e. and_then (q x e) (λ y d. got (make x y) d))

  behind : (x : A) (b : Bool) → s x ≡ b → (r : Read B) → also b (seen (t x) r) ≡ seen u (and_then r (λ y d. got (make x y) d))
  behind x b h (got y d) = ap (saw d) (ap (λ (c : Bool). c && t x y) (sym h) ∙ sym (split x y))
  behind x b h fault = refl

  pub chain_end :
      {e : ℕ} {b : Bool} {r : Saw} → saw e b ≡ seen s p → ((x : A) → p ≡ got x e → r ≡ seen (t x) (q x e)) → also b r ≡ seen u chain
  chain_end {e} {b} {r} h k =
      cut_seen s p (sym h) (λ x g c. ap (also b) (k x g) ∙ behind x b c (q x e) ∙ ap
      (λ (o : Read A). seen u (and_then o (λ x e. and_then (q x e) (λ y d. got (make x y) d)))) (sym g))

  pub chain_fault : None ≡ seen s p → None ≡ seen u chain
  chain_fault h = ap (λ (o : Read A). seen u (and_then o (λ x e. and_then (q x e) (λ y d. got (make x y) d)))) (sym (cut_fault s p (sym h)))

-- ── several: one fails a test, or all pass it ──
none_fails : {A : Type 0} (p : A → Bool) (xs : List A) → not (any_by (λ x. not (p x)) xs) ≡ all_by p xs
none_fails p [] = refl
none_fails p (x ∷ xs) = go (p x) (none_fails p xs)
  where
    go : (b : Bool) → not (any_by (λ x. not (p x)) xs) ≡ all_by p xs → not (not b || any_by (λ x. not (p x)) xs) ≡ (b && all_by p xs)
    go true h = h
    go false h = refl

module _ {A : Type 0} (p : A → Bool) (r : Read (List A)) where
  pub all_end : {e : ℕ} {b : Bool} → saw e b ≡ seen (any_by (λ x. not (p x))) r → saw e (not b) ≡ seen (all_by p) r
  all_end {e} {b} h =
      cut_seen (any_by (λ x. not (p x))) r (sym h) (λ xs g hb.
      ap (λ (c : Bool). saw e (not c)) (sym hb) ∙ ap (saw e) (none_fails p xs) ∙ ap (seen (all_by p)) (sym g))

  pub all_fault : None ≡ seen (any_by (λ x. not (p x))) r → None ≡ seen (all_by p) r
  all_fault h = ap (seen (all_by p)) (sym (cut_fault (any_by (λ x. not (p x))) r (sym h)))
