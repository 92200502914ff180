-- A claim of each element of a list, its proofs written one behind the other.
use Rattle.std.specs.Prelude.{List, [], ◌∷◌}
use Rattle.lists.specs.All.{All}

infixr 67 ◌and◌
pub data Each {A : Type 0} (P : A → Type 0) : List A → Type 0 where
  done : Each P []
  ◌and◌ : {x : A} {xs : List A} → P x → Each P xs → Each P (x ∷ xs)

module _ {A : Type 0} (P : A → Type 0) where
  pub every : (xs : List A) → Each P xs → All P xs
  every [] done = tt
  every (x ∷ xs) (h and hs) = (h, every xs hs)
