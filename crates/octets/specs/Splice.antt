-- A list with some of its elements replaced, from a place on: what every write leaves.
use Rattle.std.specs.Prelude.{ℕ, ◌+◌, List, ◌++◌, length, take, drop}
-- its laws
pub mod Laws
-- what was written as a prefix, the rest kept
pub mod Prefix

module _ {A : Type 0} where
  -- l with vs in the place of what stands from `at` on
  unfoldable pub splice : List A → ℕ → List A → List A
  splice l at vs = (take at l ++ vs) ++ drop (at + length vs) l
