-- "A number is written in groups of seven bits, lowest first, top bit set where another group follows, shortest form"; document 02, Change 3:
-- "A number may have four groups, up to 268,435,455".
use Rattle.std.specs.Prelude.{ℕ, zero, suc, ◌+◌, ◌/◌, ◌%◌, ◌^◌, List, [], ◌∷◌, true, false, ltb}
-- their laws
pub mod Laws

-- "groups of seven bits"
abbrev pub base : ℕ
base = 128

-- the groups of n, of which there are at most `b` behind the first
unfoldable pub groups_in : ℕ → ℕ → List ℕ
groups_in zero n = n ∷ []
groups_in (suc b) n = elim (ltb n base) [ true ↦ n ∷ [] | false ↦ (base + n % base) ∷ groups_in b (n / base) ]

-- the groups of every number, however large: n has fewer than n behind the first
unfoldable pub groups : ℕ → List ℕ
groups n = groups_in n n

-- "A number may have four groups"
abbrev pub most_groups : ℕ
most_groups = 4

-- the numbers that a file can hold are below this
unfoldable pub number_limit : ℕ
number_limit = base ^ most_groups
