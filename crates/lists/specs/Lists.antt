-- Lists counted and searched by a Boolean test; elements by number, counted from 1.
use Rattle.std.specs.Prelude.{Bool, true, false, cond, not, ◌&&◌, ◌||◌, ℕ, zero, suc, ◌+◌, take}
use mathlib.Core.List.{List, [], ◌∷◌, Memᴰ}
use Rattle.std.specs.Prelude.{Option, Some, None}
use Rattle.std.specs.Prelude.{slice_get}
-- What holds of each of these functions.
pub mod Laws
-- Two lists counted against each other.
pub mod Pairing

-- Membership in a list.
infix 50 ◌∈◌
abbrev pub ◌∈◌ : {A : Type 0} → A → List A → Type 0
a ∈ l = Memᴰ a l

-- A test as a number: 1 where it passes.
abbrev pub bit : Bool → ℕ
bit true = 1
bit false = 0

module _ {A : Type 0} where
  -- How many elements pass the test.
  abbrev pub count_by : (A → Bool) → List A → ℕ
  count_by p [] = 0
  count_by p (x ∷ xs) = bit (p x) + count_by p xs

  -- Does some element pass the test?
  abbrev pub any_by : (A → Bool) → List A → Bool
  any_by p [] = false
  any_by p (x ∷ xs) = p x || any_by p xs

  -- Does each element pass the test?
  abbrev pub all_by : (A → Bool) → List A → Bool
  all_by p [] = true
  all_by p (x ∷ xs) = p x && all_by p xs

  -- The first element that passes the test.
  abbrev pub first_by : (A → Bool) → List A → Option A
  first_by p [] = None
  first_by p (x ∷ xs) = cond (p x) (Some x) (first_by p xs)

  -- The list without the first element that passes the test; the list itself where none does.
  abbrev pub remove_by : (A → Bool) → List A → List A
  remove_by p [] = []
  remove_by p (x ∷ xs) = cond (p x) xs (x ∷ remove_by p xs)

  -- The elements that pass the test.
  abbrev pub keep_by : (A → Bool) → List A → List A
  keep_by p [] = []
  keep_by p (x ∷ xs) = cond (p x) (x ∷ keep_by p xs) (keep_by p xs)

  -- The element of a number, counted from 1.
  abbrev pub nth : List A → ℕ → Option A
  nth l zero = None
  nth l (suc i) = slice_get l i

  -- The elements of smaller numbers.
  abbrev pub before : ℕ → List A → List A
  before zero l = []
  before (suc k) l = take k l

-- m 0, m 1, .., k of them.
abbrev pub row : {A : Type 0} → (ℕ → A) → ℕ → List A
row m zero = []
row m (suc k) = m 0 ∷ row (λ j. m (suc j)) k

-- A pass over a list that keeps a state.
module _ {S A : Type 0} where
  -- The state that the elements leave.
  abbrev pub leaves : (S → A → S) → S → List A → S
  leaves step s [] = s
  leaves step s (x ∷ xs) = leaves step (step s x) xs

  -- The number of the first element that is bad in the state that those before it leave; numbers start at `k`.
  abbrev pub scan : (ℕ → S → A → Bool) → (S → A → S) → ℕ → S → List A → Option ℕ
  scan bad step k s [] = None
  scan bad step k s (x ∷ xs) = cond (bad k s x) (Some k) (scan bad step (suc k) (step s x) xs)

-- The number of the first element that fails a test.
abbrev pub first_bad : {A : Type 0} → (ℕ → A → Bool) → ℕ → List A → Option ℕ
first_bad {A} ok k xs = scan {S = Unit {0}} {A = A} (λ j s x. not (ok j x)) (λ s x. s) k tt xs
