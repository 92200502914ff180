-- The invariant is that j rules are read up to i and each earlier place is that of its rule; a turn enters one place.
use Rattle.protocol.specs.Protocol.{rule}
use Rattle.number.specs.Reading.Many.{Came}
use mathlib.Core.Path.{◌≡◌}
use Prim.Native.Nat.{ℕ, ◌<◌}
use lib.ListN.{length, get_or}
use Rattle.protocol.proofs.index.rules_from.Given as goal

abbrev pub invariant-loop-j : goal.invariant-loop-j
invariant-loop-j l =
    (length l.places ≡ length l.initial.places) × ((k : ℕ) → k < l.j → Came (rule l.x.file.now l.x.arities.now l.x.ars.now) l.at k (get_or l.places k 0)) × Came (rule l.x.file.now l.x.arities.now l.x.ars.now) l.at l.j l.i
