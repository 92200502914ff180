-- A pass over a list by numbers: the least element, from 1, that fails a test, which may ask its number.
use Rattle.std.specs.Prelude.{ℕ, suc, ◌+◌, ◌≤◌, ◌<◌, List, Bool, true, false, not, cond, ◌≡◌, refl, length, get_or, drop}
use Rattle.std.specs.Prelude.{Option, Some, None}
use Rattle.std.proofs.Common.{ap, ap₂, sym, ◌∙◌, arith, drop_of_length-le, drop-cons}
use Rattle.lists.specs.Lists.{first_bad}
use Rattle.rewriting.specs.Table.{Ruling, refused, or_refuse}
use Rattle.rewriting.specs.declared.Refusal.{Refusal}

-- an answer by what a pass found, or what follows where it found nothing
module _ {A : Type 0} (n : ℕ) {k o : Option ℕ} (found : k ≡ o) (r : Ruling A) where
  pub found_refused : (e : Refusal) → (e.number ≡ n) × (k ≡ Some e.item) → refused e.number e.item ≡ or_refuse n o r
  found_refused e h = ap (λ (m : ℕ). refused m e.item) h.0 ∙ ap (λ (q : Option ℕ). or_refuse n q r) (sym h.1 ∙ found)

  pub found_passed : k ≡ None → r ≡ or_refuse n o r
  found_passed h = ap (λ (q : Option ℕ). or_refuse n q r) (sym h ∙ found)

module _ {A : Type 0} (ok : ℕ → A → Bool) (d : A) (xs : List A) where
  -- what is left is what there was
  abbrev pub Rest : ℕ → Type 0
  Rest j = first_bad ok 1 xs ≡ first_bad ok (j + 1) (drop j xs)

  pub rest_all : Rest 0
  rest_all = refl

  step : (j : ℕ) (b : Bool) → j < length xs → ok (j + 1) (get_or xs j d) ≡ b → Rest j
      → first_bad ok 1 xs ≡ cond (not b) (Some (j + 1)) (first_bad ok (suc (j + 1)) (drop (suc j) xs))
  step j b l t h =
      h ∙ ap (first_bad ok (j + 1)) (drop-cons xs j d l)
      ∙ ap (λ (a : Bool). cond (not a) (Some (j + 1)) (first_bad ok (suc (j + 1)) (drop (suc j) xs))) t

  pub rest_more : (j : ℕ) → j < length xs → ok (j + 1) (get_or xs j d) ≡ true → Rest j → Rest (j + 1)
  rest_more j l t h =
      let a : suc (j + 1) ≡ j + 1 + 1 = omega arith in
      let b : suc j ≡ j + 1 = omega arith in
      step j true l t h ∙ ap₂ (λ (k i : ℕ). first_bad ok k (drop i xs)) a b

  pub rest_bad : (j : ℕ) → j < length xs → ok (j + 1) (get_or xs j d) ≡ false → Rest j → Some (j + 1) ≡ first_bad ok 1 xs
  rest_bad j l t h = sym (step j false l t h)

  pub rest_none : (j : ℕ) → length xs ≤ j → Rest j → None ≡ first_bad ok 1 xs
  rest_none j l h = sym (h ∙ ap (first_bad ok (j + 1)) (drop_of_length-le xs l))
