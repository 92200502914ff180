-- The refusal table as data: rows, what a list of rows says of an answer, and the passes that find it.
use Rattle.std.specs.Prelude.{◌≡◌, ◌⊎◌, Bool, false, List, [], ◌∷◌, ℕ, ◌<◌}
use Rattle.std.specs.Prelude.{Option, Some, None}
use Rattle.lists.specs.Lists.{nth}
-- A list of passes answers what its rows say; the answer is unique; it passes just where no row applies.
pub mod Laws
-- A pass with a state finds the smallest bad item.
pub mod Scans
-- The passes: a Boolean test with a fixed item, a bound, the least element that fails a test.
pub mod Passes

-- What a call answers: it passes with a value of its own, or it is refused with the table's number and item.
pub data Ruling (A : Type 0) : Type 0 where
  passed : A → Ruling A
  refused : ℕ → ℕ → Ruling A

-- A row: "Cause", as the items that have it, and "Number".
pub record Row : Type 1 where
  pub number : ℕ
  pub has : ℕ → Type 0

abbrev pub row : ℕ → (ℕ → Type 0) → Row
row n P = record { number = n; has = P }

-- A row with one item: 0, a file's ("An item is 1 protocol, 2 property, 3 graph, 4 term, 5 steps"), or the bytes needed.
abbrev pub fixed_row : ℕ → ℕ → Type 0 → Row
fixed_row n i P = row n (λ k. (k ≡ i) × P)

-- A cause over a list, its items numbered from 1: the element of number `k` fails a test.
pub record Fails {A : Type 0} (ok : ℕ → A → Bool) (xs : List A) (k : ℕ) : Type 0 where
  pub which : A
  pub stands : nth xs k ≡ Some which
  pub is_false : ok k which ≡ false

-- "the smallest item wins".
pub record Least (P : ℕ → Type 0) (k : ℕ) : Type 0 where
  pub here : P k
  pub below : (j : ℕ) → j < k → P j → ⊥

-- No item has the cause.
abbrev pub Nowhere : Row → Type 0
Nowhere c = (k : ℕ) → c.has k → ⊥

abbrev pub Absent : List Row → Type 0
Absent [] = Unit {0}
Absent (c ∷ cs) = Nowhere c × Absent cs

-- What the table says of an answer: "Every other cause passes over the whole file before the next; the smallest item wins."
-- The first row that some item has, with the smallest such item; where there is none, it passes with a value that is `Good`.
abbrev pub Ruled : {A : Type 0} → List Row → (A → Type 0) → Ruling A → Type 0
Ruled {A} [] Good r = (a : A) × Good a × (r ≡ passed a)
Ruled (c ∷ cs) Good r = (Nowhere c × Ruled cs Good r) ⊎ ((k : ℕ) × Least c.has k × (r ≡ refused c.number k))

-- A refusal with this number and item is one of the rows, and the item its smallest.
abbrev pub Says : List Row → ℕ → ℕ → Type 0
Says [] n k = ⊥
Says (c ∷ cs) n k = ((n ≡ c.number) × Least c.has k) ⊎ Says cs n k

-- A pass finds the smallest item that has the cause.
abbrev pub Finds : (ℕ → Type 0) → Option ℕ → Type 0
Finds P None = (k : ℕ) → P k → ⊥
Finds P (Some k) = Least P k

pub record Pass : Type 1 where
  pub cause : Row
  pub found : Option ℕ
  pub finds : Finds cause.has found

-- Refused where the pass found an item, else what follows.
abbrev pub or_refuse : {A : Type 0} → ℕ → Option ℕ → Ruling A → Ruling A
or_refuse n None r = r
or_refuse n (Some k) r = refused n k

-- The rows of some passes, then further rows; what the passes answer, then what follows.
abbrev pub rows_then : List Pass → List Row → List Row
rows_then [] cs = cs
rows_then (p ∷ ps) cs = p.cause ∷ rows_then ps cs

abbrev pub ruling_then : {A : Type 0} → List Pass → Ruling A → Ruling A
ruling_then [] r = r
ruling_then (p ∷ ps) r = or_refuse p.cause.number p.found (ruling_then ps r)

abbrev pub rows_of : List Pass → List Row
rows_of ps = rows_then ps []

abbrev pub ruling_of : {A : Type 0} → List Pass → A → Ruling A
ruling_of ps a = ruling_then ps (passed a)

-- An answer whose value is used by what follows, and the rows that are asked of that value.
abbrev pub and_then : {A B : Type 0} → Ruling A → (A → Ruling B) → Ruling B
and_then (passed a) f = f a
and_then (refused n k) f = refused n k

abbrev pub rows_after : {A : Type 0} → Ruling A → (A → List Row) → List Row
rows_after (passed a) cs = cs a
rows_after (refused n k) cs = []
