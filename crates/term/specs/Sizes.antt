-- How large the terms are that canonical forms are made of.
use Rattle.std.specs.Prelude.{ℕ, ◌+◌, ◌*◌}
use Rattle.number.specs.Groups.{most_groups}

-- "at most 256 symbols"
abbrev pub most_symbols : ℕ
most_symbols = 256

-- the bytes that are kept free for a symbol: a tag, and a number of the most groups
abbrev pub symbol_room : ℕ
symbol_room = 1 + most_groups

abbrev pub term_room : ℕ
term_room = symbol_room * most_symbols
