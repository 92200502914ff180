-- The sum is the length of the first numbers' bytes, at most five each.
use Rattle.writer.specs.Edges.{number_room, number_bytes}
use Prim.Native.Nat.{◌*◌, ◌≤◌}
use lib.ListN.{length}
use mathlib.Core.Path.{◌≡◌}
use Rattle.writer.proofs.edges.numbers_len.Given as goal

abbrev pub invariant-loop-n : goal.invariant-loop-n
invariant-loop-n l =
    (l.len ≡ length (number_bytes l.numbers l.n-index)) × (l.len ≤ number_room * l.n-index)
