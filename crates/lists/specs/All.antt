-- A condition of all elements of a list.
use Rattle.std.specs.Prelude.{List, [], ◌∷◌}
-- its laws
pub mod Laws

abbrev pub All : {A : Type 0} → (A → Type 0) → List A → Type 0
All Good [] = Unit {0}
All Good (x ∷ xs) = Good x × All Good xs
