-- The invariant is that no place of the chain passed so far is the same argument; links lead to lower places, so it ends.
use lib.ListN.{length}
use mathlib.Core.Path.{◌≡◌}
use mathlib.Core.List.{List}
use Rattle.steps.specs.Nodes.{Node}
use Rattle.lists.specs.Asks.{Promises₂}
use Rattle.protocol.specs.Protocol.{Protocol}
use Rattle.trace.specs.Classes.{Walkable, Walking}
use Rattle.trace.proofs.classes.earlier.Given as goal

abbrev pub invariant-loop-h : goal.invariant-loop-h
invariant-loop-h l =
    (length l.work ≡ length l.initial.work) × Promises₂ (Walkable l.p l.s l.nodes l.entries l.chains l.head l.q) (λ (P : Protocol) (xs : List Node). Walking P xs l.chains l.head l.q l.h)

abbrev pub decreases-loop-h : goal.decreases-loop-h
decreases-loop-h l =
    l.h
