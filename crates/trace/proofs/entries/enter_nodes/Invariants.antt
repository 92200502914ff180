-- The invariant is that the first k nodes are entered up to `from`, where the next node's actions begin.
use Rattle.trace.specs.Entries.{TableOf, Entering}
use Rattle.lists.specs.Asks.{Promises₃}
use Rattle.protocol.specs.Protocol.{Protocol}
use Rattle.steps.specs.Nodes.{Node}
use Prim.Native.Nat.{ℕ}
use mathlib.Core.List.{List}
use mathlib.Core.Path.{◌≡◌}
use lib.ListN.{length}
use Rattle.trace.proofs.entries.enter_nodes.Given as goal

abbrev pub invariant-loop-k : goal.invariant-loop-k
invariant-loop-k l =
    (length l.starts ≡ length l.initial.starts) × (length l.entries ≡ length l.initial.entries) × Promises₃ (TableOf l.p l.nodes l.n)
    (λ (s : List ℕ) (P : Protocol) (xs : List Node). Entering l.p l.nodes l.starts l.entries l.k l.from s P xs)
