-- What was written is the first numbers' bytes, one behind the other.
use Rattle.writer.specs.Edges.{number_bytes}
use Rattle.writer.specs.Edges.Laws.{Wrote}
use Prim.Native.Nat.{◌+◌, ◌≤◌}
use lib.ListN.{length}
use Rattle.writer.proofs.edges.write_numbers.Given as goal

abbrev pub invariant-loop-n : goal.invariant-loop-n
invariant-loop-n l =
    (room : l.at + length (number_bytes l.numbers (length l.numbers)) ≤ length l.initial.output) (long : length l.numbers ≤ length l.numbers)
    → Wrote l.initial.output l.at l.numbers (length l.numbers) room long l.n-index l.o l.output
