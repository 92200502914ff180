-- The invariant is that h is the mark of the bytes so far; it stays below the limit, so no product overflows.
use Prim.Native.Nat.{◌<◌}
use Rattle.facts.specs.Marks.{mark_limit, Marked}
use Rattle.facts.proofs.marks.mark_bytes.Given as goal

abbrev pub invariant-loop-b : goal.invariant-loop-b
invariant-loop-b l =
    (l.h < mark_limit) × Marked l.from l.file l.h l.b-index
