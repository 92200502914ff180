-- Bindings as an array of numbers, and the terms of a fact as codes.
use Rattle.std.specs.Prelude.{ℕ, zero, suc, ◌+◌, ◌-◌, List, [], ◌∷◌, Bool, true, ◌&&◌, get_or, set, ltb, leb}
use Rattle.lists.specs.Choice.{pick}
use Rattle.property.specs.Figures.{most_scope}
use Rattle.property.specs.Formula.{Sort, msg, tmp, Term, var, public}
use Rattle.property.specs.Meaning.{Value, message, time}
-- what a slot holds, before and after an entry is bound
pub mod Slots
-- every term compared
pub mod Tests

-- a class number for a message, a node number for a time
abbrev pub of_sort : Sort → ℕ → Value ℕ ℕ
of_sort msg v = message v
of_sort tmp v = time v

-- the variables from x on, of these sorts, as the array has them
abbrev pub bound_from : ℕ → List Sort → List ℕ → List (Value ℕ ℕ)
bound_from x [] b = []
bound_from x (t ∷ s) b = of_sort t (get_or b x 0) ∷ bound_from (suc x) s b

abbrev pub bound : List Sort → List ℕ → List (Value ℕ ℕ)
bound s b = bound_from 0 s b

-- a term in one number: a variable's own, or that of a public name behind all variables
abbrev pub code : Term → ℕ
code (var x) = x
code (public n) = most_scope + n

-- the class number that a code stands for
abbrev pub value : ℕ → List ℕ → ℕ → ℕ
value base b t = pick (ltb t most_scope) (get_or b t 0) (base + (t - most_scope))

-- the code of a variable that is not one of the n that are bound
abbrev pub is_new : ℕ → ℕ → Bool
is_new n t = leb n t && ltb t most_scope

-- v goes to the slot t, if that is none of the n that are bound
abbrev pub put : ℕ → ℕ → ℕ → List ℕ → List ℕ
put n t v c = pick (is_new n t) (set c t v) c

-- the messages m go to the variables t, from the last of k to the first: so the first occurrence stays
abbrev pub finish : (ℕ → ℕ) → (ℕ → ℕ) → ℕ → ℕ → List ℕ → List ℕ
finish t m n zero c = c
finish t m n (suc k) c = finish t m n k (put n (t k) (m k) c)

-- the first k tests
abbrev pub all_up : (ℕ → Bool) → ℕ → Bool
all_up t zero = true
all_up t (suc k) = all_up t k && t k
