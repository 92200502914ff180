-- The invariant is that the entries below lo come before the key and those from hi on behind it; the entries ascend, so each look narrows that.
use Prim.Native.Nat.{◌-◌, ◌≤◌, ◌<◌}
use Rattle.factors.proofs.EnterPaths.{Between}
use Rattle.factors.proofs.find_place.Given as goal

abbrev pub invariant-loop-lo : goal.invariant-loop-lo
invariant-loop-lo l =
    Between l.key l.src l.entries l.lo l.hi × (l.lo < l.hi → (l.lo ≤ l.j) × (l.j < l.hi))

abbrev pub decreases-loop-lo : goal.decreases-loop-lo
decreases-loop-lo l =
    l.hi - l.lo
