-- The invariant is that the first e actions are numbered; each turn numbers one action's places.
use lib.ListN.{length}
use mathlib.Core.Path.{◌≡◌}
use mathlib.Core.List.{List}
use Prim.Native.Nat.{◌*◌}
use Rattle.steps.specs.Nodes.{Node}
use Rattle.lists.specs.Asks.{Promises₂}
use Rattle.protocol.specs.Protocol.{Protocol}
use Rattle.trace.specs.Tables.{stride}
use Rattle.trace.specs.Entries.{ListedAll}
use Rattle.trace.specs.Numbers.{NumberedTo}
use Rattle.trace.proofs.numbers.number_actions.Given as goal

abbrev pub invariant-loop-e : goal.invariant-loop-e
invariant-loop-e l =
    (length l.work ≡ length l.initial.work) × (length l.classes ≡ length l.initial.classes) × Promises₂ (ListedAll l.p l.s l.nodes l.entries (length l.entries))
    (λ (P : Protocol) (xs : List Node). NumberedTo l.classes (stride * l.e) P xs)
