-- The invariant is that what is written and the filled-in bytes of the terms left are the filled-in bytes of all; each turn reads a byte at least.
use Rattle.canonical.proofs.Plain.{Walk}
use Prim.Native.Nat.{◌-◌}
use lib.ListN.{length}
use Rattle.canonical.proofs.filled_into.Given as goal

abbrev pub invariant-loop-left : goal.invariant-loop-left
invariant-loop-left l =
    Walk l.arities l.vals l.starts l.src l.at l.k l.initial.out l.o l.p.at l.left l.out l.p.o

abbrev pub decreases-loop-left : goal.decreases-loop-left
decreases-loop-left l =
    length l.src - l.p.at
