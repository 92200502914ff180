-- How long an input is.
use Rattle.std.specs.Prelude.{ℕ}

-- the room for the input
abbrev pub room : ℕ
room = 65536
