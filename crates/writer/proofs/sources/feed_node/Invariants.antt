-- One premise a turn: the edges so far and what follows from premise i on make up the whole.
use Rattle.writer.specs.Sources.{Feeding}
use Rattle.steps.specs.Nodes.{Node}
use Rattle.protocol.specs.Protocol.{Protocol}
use Rattle.lists.specs.Asks.{Promises₂}
use Prim.Native.Nat.{◌+◌}
use lib.ListN.{length}
use mathlib.Core.List.{List}
use mathlib.Core.Path.{◌≡◌}
use Rattle.writer.proofs.sources.feed_node.Given as goal

abbrev pub invariant-loop-i : goal.invariant-loop-i
invariant-loop-i l =
    (length l.work ≡ length l.initial.work) × (length l.free ≡ length l.initial.free) × (length l.edges ≡ length l.initial.edges) × Promises₂
    (Feeding l.p l.s l.nodes l.initial.free l.initial.edges l.k 0 l.e) (λ (P : Protocol) (xs : List Node). Feeding l.p l.s l.nodes l.free l.edges l.k l.i (l.e + l.i) P xs)
