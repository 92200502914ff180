-- Cause 9 by the nodes of a step list or graph, and what code answers of the names that they make.
use Rattle.std.specs.Prelude.{ℕ, List, [], ◌∷◌, ◌++◌, Bool, false, ◌≡◌, eqb, leb, take}
use Rattle.std.specs.Prelude.{Option, Some, None}
use Rattle.lists.specs.Lists.{count_by}
use Rattle.rewriting.specs.Graph.{name_of}
use Rattle.term.specs.declared.Fresh.{Fresh}
use Rattle.steps.specs.Nodes.{Node}
use Rattle.steps.specs.Facts.{made_name}
-- the pass over the names is crate rewriting's
pub mod Laws
-- the name of a node, as the code reads it
pub mod Code
-- cause 9 in plain words
pub mod Twice

-- the names that nodes make, in order
abbrev pub made_by : List Node → List ℕ
made_by [] = []
made_by (x ∷ xs) = name_of (made_name x) ++ made_by xs

-- a name stands among those that the nodes make
abbrev pub is_made : ℕ → List Node → Bool
is_made m xs = leb 1 (count_by (eqb m) (made_by xs))

-- the node's name is made by the nodes before it
abbrev pub again_in : List Node → Option ℕ → Bool
again_in xs None = false
again_in xs (Some m) = is_made m xs

-- the name of a node as the code has it
abbrev pub MadeIs : Option ℕ → Option Fresh → Type 0
MadeIs o (Some f) = o ≡ Some f.0
MadeIs o None = o ≡ None

-- the first k entries of a table are the names that the first j nodes make, in order
pub record Entered (names : List ℕ) (k : ℕ) (xs : List Node) (j : ℕ) : Type 0 where
  pub entries : take k names ≡ made_by (take j xs)
