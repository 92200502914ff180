-- The order of byte strings, "by their encoded bytes (unsigned, the first difference decides)"; a string that ends comes before one that goes on.
use Rattle.std.specs.Prelude.{ℕ, List, [], ◌∷◌, Bool, true, false, ltb}
use Rattle.lists.specs.Choice.{pick}
use Rattle.std.specs.declared.cmp.Ordering.{Ordering}
use Rattle.std.specs.declared.cmp.Ordering.TheVariants.{Less, Equal, Greater}
-- its laws
pub mod Laws

abbrev pub compare_bytes : List ℕ → List ℕ → Ordering
compare_bytes [] [] = Equal
compare_bytes [] (y ∷ ys) = Less
compare_bytes (x ∷ xs) [] = Greater
compare_bytes (x ∷ xs) (y ∷ ys) = pick (ltb x y) Less (pick (ltb y x) Greater (compare_bytes xs ys))

abbrev pub is_equal : Ordering → Bool
is_equal Less = false
is_equal Equal = true
is_equal Greater = false

-- the other way round
abbrev pub flipped : Ordering → Ordering
flipped Less = Greater
flipped Equal = Equal
flipped Greater = Less
