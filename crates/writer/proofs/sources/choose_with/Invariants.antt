-- One node a turn: the edges so far and what follows from node k on make up the whole, with the conclusions before k in the table.
use mathlib.Core.Path.{◌≡◌}
use mathlib.Core.List.{List}
use lib.ListN.{length}
use Rattle.lists.specs.Asks.{Promises₂}
use Rattle.protocol.specs.Protocol.{Protocol}
use Rattle.steps.specs.Nodes.{Node}
use Rattle.steps.specs.Causes.Good.{RightNodes}
use Rattle.writer.specs.Sources.{Choosing}
use Rattle.writer.proofs.sources.choose_with.Given as goal

abbrev pub invariant-loop-k : goal.invariant-loop-k
invariant-loop-k l =
    (length l.work ≡ length l.initial.work) × (length l.edges ≡ length l.initial.edges) × (length l.free ≡ length l.initial.free) × Promises₂ (RightNodes l.p l.s l.nodes l.n)
    (λ (P : Protocol) (xs : List Node). Choosing l.p l.s l.nodes l.free l.edges l.k l.e P xs)
