-- The lists of several elements, one behind the other.
use Rattle.std.specs.Prelude.{ℕ, zero, suc, ◌+◌, ◌*◌, ◌≤◌, ◌<◌, List, [], ◌∷◌, ◌++◌, ◌≡◌, length, get_or, take}
use Rattle.std.proofs.Common.{ap, ◌∙◌, arith, length-append, get_or-append-add}
use Rattle.std.proofs.Math.ListN.{get_or-append}
use Rattle.std.proofs.Math.Seq.{take-length}
use Rattle.lists.specs.All.{All}

module _ {A B : Type 0} (f : A → List B) where
  abbrev pub joined : List A → List B
  joined [] = []
  joined (x ∷ xs) = f x ++ joined xs

  -- how many stand before those of the element of a number, from 0
  abbrev pub before : List A → ℕ → ℕ
  before xs k = length (joined (take k xs))

  pub before_all : (xs : List A) → before xs (length xs) ≡ length (joined xs)
  before_all xs = ap (λ (l : List A). length (joined l)) (take-length xs)

  pub before_most : (xs : List A) (k : ℕ) → before xs k ≤ length (joined xs)
  before_most [] zero = omega arith
  before_most [] (suc k) = omega arith
  before_most (x ∷ xs) zero = omega arith
  before_most (x ∷ xs) (suc k) = omega (arith, before_most xs k, length-append (f x) (joined xs), length-append (f x) (joined (take k xs)))

  pub joined_few : (c : ℕ) (xs : List A) → All (λ x. length (f x) ≤ c) xs → length (joined xs) ≤ c * length xs
  joined_few c [] a = omega arith
  joined_few c (x ∷ xs) a =
      let r = joined_few c xs a.1 in
      let e : c * suc (length xs) ≡ c + c * length xs = omega arith in
      omega (arith, r, e, a.0, length-append (f x) (joined xs))

  module _ (d : A) where
    pub before_more : (xs : List A) (k : ℕ) → k < length xs → before xs (suc k) ≡ before xs k + length (f (get_or xs k d))
    before_more [] k l = absurd (omega arith)
    before_more (x ∷ xs) zero l = omega (arith, length-append (f x) (joined (take 0 xs)))
    before_more (x ∷ xs) (suc k) l =
        omega (arith, before_more xs k (omega arith), length-append (f x) (joined (take (suc k) xs)), length-append (f x) (joined (take k xs)))

    pub before_inside : (xs : List A) (k i : ℕ) → k < length xs → i < length (f (get_or xs k d)) → before xs k + i < length (joined xs)
    before_inside [] k i l m = absurd (omega arith)
    before_inside (x ∷ xs) zero i l m = omega (arith, m, length-append (f x) (joined xs))
    before_inside (x ∷ xs) (suc k) i l m =
        omega (arith, before_inside xs k i (omega arith) m, length-append (f x) (joined xs), length-append (f x) (joined (take k xs)))

    pub joined_at :
        (b : B) (xs : List A) (k i : ℕ) → k < length xs → i < length (f (get_or xs k d))
        → get_or (joined xs) (before xs k + i) b ≡ get_or (f (get_or xs k d)) i b
    joined_at b [] k i l m = absurd (omega arith)
    joined_at b (x ∷ xs) zero i l m =
        let z : 0 + i ≡ i = omega arith in
        ap (λ (n : ℕ). get_or (f x ++ joined xs) n b) z ∙ get_or-append (f x) (joined xs) b i m
    joined_at b (x ∷ xs) (suc k) i l m =
        let z : length (f x ++ joined (take k xs)) + i ≡ length (f x) + (before xs k + i) =
        omega (arith, length-append (f x) (joined (take k xs))) in
        ap (λ (n : ℕ). get_or (f x ++ joined xs) n b) z ∙ get_or-append-add (f x) (joined xs) (before xs k + i) b
        ∙ joined_at b xs k i (omega arith) m
