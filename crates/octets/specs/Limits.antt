-- How long a slice may be that the code counts in.
use Rattle.std.specs.Prelude.{ℕ, ◌^◌}

-- every file and every buffer is far shorter; below it no count of places or pending terms wraps
abbrev pub longest : ℕ
longest = 2 ^ 32
