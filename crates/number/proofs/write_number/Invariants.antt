-- The invariant is that writing the rest's groups at i would give what is promised; each turn writes the lowest of them,
-- which the low seven bits are: they are the remainder by 128 (`and_mask`).
use Rattle.number.specs.Groups.{groups}
use Rattle.octets.specs.Splice.{splice}
use mathlib.Core.Path.{◌≡◌}
use lib.ListN.{length}
use Prim.Native.Nat.{◌+◌}
use Rattle.number.proofs.write_number.Given as goal

abbrev pub invariant-loop-rest : goal.invariant-loop-rest
invariant-loop-rest l =
    (length l.out ≡ length l.initial.out) × (l.i + length (groups l.rest) ≡ l.at + length (groups l.n)) × (splice l.out l.i (groups l.rest) ≡ splice l.initial.out l.at (groups l.n))

abbrev pub decreases-loop-rest : goal.decreases-loop-rest
decreases-loop-rest l =
    l.rest
