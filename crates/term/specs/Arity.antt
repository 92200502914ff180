-- "Arities: one 0; h, fst, snd, inv 1; the others 2; a free function as declared." A slot for each tag.
use Rattle.std.specs.Prelude.{ℕ, zero, suc, List, [], ◌∷◌, ◌++◌, get_or, ltb, eqb}
use Rattle.std.specs.Prelude.{Option, Some, None}
use Rattle.lists.specs.Choice.{pick}
use Rattle.term.specs.Tags.{first_function, most_functions}
-- their laws
pub mod Laws

-- the slot of a tag that no function has
abbrev pub undeclared : ℕ
undeclared = 255

-- the arity of each tag in a table of slots; tags 0 to 2 are leaves and no functions
unfoldable pub arity : List ℕ → ℕ → Option ℕ
arity arities f =
    pick (ltb f first_function) None (pick (eqb (get_or arities f undeclared) undeclared) None (Some (get_or arities f undeclared)))

-- 3 one; 4 enc; 5 dec; 6 h; 7 pair; 8 fst; 9 snd; 10 exp; 11 inv; 12 mul
abbrev pub builtin : List ℕ
builtin = undeclared ∷ undeclared ∷ undeclared ∷ 0 ∷ 2 ∷ 2 ∷ 1 ∷ 2 ∷ 1 ∷ 1 ∷ 2 ∷ 1 ∷ 2 ∷ []

-- 29 aenc; 30 adec; 31 pk; 32 sign; 33 verify; 34 true: "arities 2, 2, 1, 2, 3, 0"
abbrev pub signing : List ℕ
signing = 2 ∷ 2 ∷ 1 ∷ 2 ∷ 3 ∷ 0 ∷ []

-- as many slots as n, those past the list's end undeclared
abbrev pub padded : ℕ → List ℕ → List ℕ
padded zero l = []
padded (suc n) [] = undeclared ∷ padded n []
padded (suc n) (a ∷ l) = a ∷ padded n l

-- document 01's table, for the declared arities of the free functions: "13+j free function j (j from 0)", 16 at most; behind them Change 4's
unfoldable pub tag_arities : List ℕ → List ℕ
tag_arities free = builtin ++ (padded most_functions free ++ signing)
