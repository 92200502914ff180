-- The invariant is that what is left has the solutions that the whole has; each turn reads a byte of the patterns at least.
use lib.ListN.{length}
use Prim.Native.Nat.{◌-◌}
use Rattle.canonical.proofs.Matching.{Walked}
use Rattle.canonical.proofs.fits.Given as goal

abbrev pub invariant-loop-i : goal.invariant-loop-i
invariant-loop-i l =
    Walked l.arities l.out l.e l.patterns l.at l.initial.spans l.i l.a l.spans

abbrev pub decreases-loop-i : goal.decreases-loop-i
decreases-loop-i l =
    length l.patterns - l.i
