-- The invariant is that h is the mark of the bytes so far; it stays below the limit, so no product overflows.
use native.Mathlib.Omega.{arith}
use Rattle.facts.specs.Marks.{marked_none, marked_more, marked_all, mark_small}
use Rattle.facts.proofs.marks.mark_bytes.Goals as goal

pub loop-b-init : goal.loop-b-init
loop-b-init c =
    (c.requires, marked_none _ _)

pub loop-b-preserved : goal.loop-b-preserved
loop-b-preserved c =
    (mark_small _, marked_more _ _ _ _ (omega arith) c.loop-b.invariant.1)

pub returns : goal.returns
returns c =
    marked_all _ _ _ c.loop-b.b-index (omega arith) c.loop-b.invariant.1
