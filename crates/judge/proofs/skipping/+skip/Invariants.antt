-- By recursion over the file that is left: each case of the formula's tag ends where its parts do.
use Prim.Native.Nat.{◌-◌}
use lib.ListN.{length}
use Rattle.judge.proofs.skipping.+skip.Given as goal

abbrev pub decreases-skip : goal.decreases-skip
decreases-skip l =
    length l.file.now - l.at
