-- By the first symbol: a leaf is filled in, a function is closed over its made arguments; then the terms behind. What is left to read falls.
use lib.ListN.{length}
use Prim.Native.Nat.{◌-◌}
use Rattle.canonical.proofs.+make.Given as goal

abbrev pub decreases-make : goal.decreases-make
decreases-make l =
    length l.src.now - l.p.at
