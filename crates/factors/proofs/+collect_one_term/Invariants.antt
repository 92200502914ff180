-- Together, the slice that is left falling: what is gathered and the pending terms' factors are all the terms' factors, and a turned sign negates.
use Rattle.factors.proofs.CollectPaths.{Walk}
use lib.ListN.{length}
use Prim.Native.Nat.{◌-◌, ◌+◌, ◌*◌}
use Rattle.factors.proofs.+collect_one_term.Given as goal

abbrev pub decreases-collect : goal.decreases-collect
decreases-collect l =
    2 * (length l.src.now - l.at) + 1

abbrev pub decreases-one_term : goal.decreases-one_term
decreases-one_term l =
    2 * (length l.src.now - l.at)

abbrev pub invariant-collect-loop-left : goal.invariant-collect-loop-left
invariant-collect-loop-left l =
    Walk l.arities l.src l.initial.entries l.n l.at l.k l.minus l.entries l.put.n l.i l.left

abbrev pub decreases-collect-loop-left : goal.decreases-collect-loop-left
decreases-collect-loop-left l =
    length l.src - l.i
