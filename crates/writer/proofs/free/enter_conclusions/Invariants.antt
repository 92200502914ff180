-- One conclusion a turn: the free ones are those before and the first i of this node, and the entries behind stay 0.
use Rattle.writer.specs.Search.Laws.{Entering}
use Rattle.writer.specs.Search.{AtNode}
use Rattle.steps.specs.Nodes.{Node}
use Rattle.protocol.specs.Protocol.{Protocol}
use Rattle.lists.specs.Asks.{Promises₂}
use lib.ListN.{length}
use mathlib.Core.List.{List}
use mathlib.Core.Path.{◌≡◌}
use Rattle.writer.proofs.free.enter_conclusions.Given as goal

abbrev pub invariant-loop-i : goal.invariant-loop-i
invariant-loop-i l =
    (length l.work ≡ length l.initial.work) × (length l.free ≡ length l.initial.free) × Promises₂ (AtNode l.p l.s l.nodes l.k l.initial.free)
    (λ (P : Protocol) (xs : List Node). Entering l.k l.i l.initial.free l.free P xs)
