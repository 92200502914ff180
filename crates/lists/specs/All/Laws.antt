-- What holds of a condition of all elements of a list.
use Rattle.std.specs.Prelude.{ℕ, zero, suc, ◌<◌, List, [], ◌∷◌, ◌++◌, map, Bool, false, ◌≡◌, refl, length, get_or, take}
use Rattle.std.specs.Prelude.{Some}
use Rattle.std.proofs.lemmas.Option.{none-some, same_Some}
use Rattle.std.proofs.Common.{subst, arith}
use Rattle.lists.specs.Lists.{any_by, keep_by, nth}
use Rattle.lists.specs.All.{All}
use Rattle.lists.specs.Tests.{by_bool, or_split}

module _ {A : Type 0} (P Q : A → Type 0) where
  pub all_map : ((x : A) → P x → Q x) → (xs : List A) → All P xs → All Q xs
  all_map h [] a = tt
  all_map h (x ∷ xs) a = (h x a.0, all_map h xs a.1)

  pub all_both : (xs : List A) → All P xs → All Q xs → All (λ x. P x × Q x) xs
  all_both [] a b = tt
  all_both (x ∷ xs) a b = ((a.0, b.0), all_both xs a.1 b.1)

module _ {A : Type 0} (P : A → Type 0) where
  -- of the element of a number, and of what stands for one that is not there
  pub all_at : (d : A) → P d → (xs : List A) → All P xs → (i : ℕ) → P (get_or xs i d)
  all_at d b [] a i = b
  all_at d b (x ∷ xs) a zero = a.0
  all_at d b (x ∷ xs) a (suc i) = all_at d b xs a.1 i

  -- of one that is there
  pub all_inside : (d : A) (xs : List A) → All P xs → (i : ℕ) → i < length xs → P (get_or xs i d)
  all_inside d [] a i l = absurd (omega arith)
  all_inside d (x ∷ xs) a zero l = a.0
  all_inside d (x ∷ xs) a (suc i) l = all_inside d xs a.1 i (omega arith)

  -- of the element of a number, counted from 1
  pub all_nth : (xs : List A) → All P xs → (k : ℕ) (x : A) → nth xs k ≡ Some x → P x
  all_nth xs a zero x h = absurd (none-some x h)
  all_nth [] a (suc k) x h = absurd (none-some x h)
  all_nth (y ∷ ys) a (suc zero) x h = subst P (same_Some y x h) a.0
  all_nth (y ∷ ys) a (suc (suc k)) x h = all_nth ys a.1 (suc k) x h

  pub nth_all : (xs : List A) → ((k : ℕ) (x : A) → nth xs k ≡ Some x → P x) → All P xs
  nth_all [] h = tt
  nth_all (x ∷ xs) h = (h 1 x refl, nth_all xs (λ k y e. later k y e))
    where
      later : (k : ℕ) (y : A) → nth xs k ≡ Some y → P y
      later zero y e = absurd (none-some y e)
      later (suc k) y e = h (suc (suc k)) y e

  -- of two lists one behind the other, of those that pass a test, of the first ones
  pub all_append : (xs ys : List A) → All P xs → All P ys → All P (xs ++ ys)
  all_append [] ys a b = b
  all_append (x ∷ xs) ys a b = (a.0, all_append xs ys a.1 b)

  pub all_keep : (q : A → Bool) (xs : List A) → All P xs → All P (keep_by q xs)
  all_keep q [] a = tt
  all_keep q (x ∷ xs) a = by_bool (q x) (λ t. rw t (a.0, all_keep q xs a.1)) (λ f. rw f (all_keep q xs a.1))

  pub all_take : (k : ℕ) (xs : List A) → All P xs → All P (take k xs)
  all_take zero xs a = tt
  all_take (suc k) [] a = tt
  all_take (suc k) (x ∷ xs) a = (a.0, all_take k xs a.1)

module _ {A B : Type 0} (P : A → Type 0) (Q : B → Type 0) (g : A → B) where
  pub map_all : ((x : A) → P x → Q (g x)) → (xs : List A) → All P xs → All Q (map g xs)
  map_all h [] a = tt
  map_all h (x ∷ xs) a = (h x a.0, map_all h xs a.1)

-- what stands for an element that is not there does not matter to one that is
pub same_inside : {A : Type 0} (xs : List A) (i : ℕ) (a b : A) → i < length xs → get_or xs i a ≡ get_or xs i b
same_inside [] i a b l = absurd (omega arith)
same_inside (x ∷ xs) zero a b l = refl
same_inside (x ∷ xs) (suc i) a b l = same_inside xs i a b (omega arith)

-- the element of a number of a mapped list
pub map_at : {A B : Type 0} (f : A → B) (xs : List A) (i : ℕ) (a : A) (b : B) → i < length xs → get_or (map f xs) i b ≡ f (get_or xs i a)
map_at f [] i a b l = absurd (omega arith)
map_at f (x ∷ xs) zero a b l = refl
map_at f (x ∷ xs) (suc i) a b l = map_at f xs i a b (omega arith)

-- no element passes a test
pub none_all : {A : Type 0} (q : A → Bool) (xs : List A) → any_by q xs ≡ false → All (λ x. q x ≡ false) xs
none_all q [] h = tt
none_all q (x ∷ xs) h = let (a, b) = or_split (q x) (any_by q xs) h in (a, none_all q xs b)
