-- The invariant is that the slice is its entry with the first i bytes of the source spliced in; each turn adds one.
use lib.ListN.{length, take}
use mathlib.Core.Path.{◌≡◌}
use Prim.Native.Nat.{◌≤◌}
use Rattle.octets.specs.Splice.{splice}
use Rattle.octets.proofs.copy_into.Given as goal

abbrev pub invariant-loop-i : goal.invariant-loop-i
invariant-loop-i l = (l.i ≤ length l.src) × (length l.out ≡ length l.initial.out) × (l.out ≡ splice l.initial.out l.at (take l.i l.src))
