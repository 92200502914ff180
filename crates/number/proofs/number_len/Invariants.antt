-- Each turn takes one group off the rest; the bytes counted and the groups of the rest are together one more than the number's groups.
use Rattle.number.specs.Groups.{groups}
use mathlib.Core.Path.{◌≡◌}
use lib.ListN.{length}
use Prim.Native.Nat.{◌+◌}
use Rattle.number.proofs.number_len.Given as goal

abbrev pub invariant-loop-rest : goal.invariant-loop-rest
invariant-loop-rest l =
    l.len + length (groups l.rest) ≡ length (groups l.n) + 1

abbrev pub decreases-loop-rest : goal.decreases-loop-rest
decreases-loop-rest l =
    l.rest
