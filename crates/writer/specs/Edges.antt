-- The bytes of the edges, from the numbers in their table.
use Rattle.std.specs.Prelude.{ℕ, List, take}
use Rattle.number.specs.Groups.{groups}
use Rattle.number.specs.Layout.{flat}
-- four numbers are the bytes of an edge; one number more
pub mod Laws

-- a number of the table, of 32 bits, takes no more bytes
abbrev pub number_room : ℕ
number_room = 5

-- the first k numbers of the table, one behind the other
abbrev pub number_bytes : List ℕ → ℕ → List ℕ
number_bytes edges k = flat groups (take k edges)
