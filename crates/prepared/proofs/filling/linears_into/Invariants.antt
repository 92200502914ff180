-- The invariant is that the first i flags are turned and spliced in; each turn adds one.
use Rattle.prepared.specs.Prepared.{linear}
use Rattle.octets.specs.Splice.{splice}
use lib.ListN.{length, take}
use mathlib.Core.List.{map}
use mathlib.Core.Path.{◌≡◌}
use Rattle.prepared.proofs.filling.linears_into.Given as goal

abbrev pub invariant-loop-i : goal.invariant-loop-i
invariant-loop-i l =
    (length l.out ≡ length l.initial.out) × (l.out ≡ splice l.initial.out 0 (map linear (take l.i l.flags)))
