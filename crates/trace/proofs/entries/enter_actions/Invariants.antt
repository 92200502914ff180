-- The invariant is that the actions up to from + i are entered; each turn enters the code of one.
use Rattle.trace.specs.Entries.{Begun, Entered}
use Rattle.lists.specs.Asks.{Promises₃}
use Rattle.protocol.specs.Protocol.{Protocol}
use Rattle.steps.specs.Nodes.{Node}
use Prim.Native.Nat.{ℕ, ◌+◌}
use mathlib.Core.List.{List}
use mathlib.Core.Path.{◌≡◌}
use lib.ListN.{length}
use Rattle.trace.proofs.entries.enter_actions.Given as goal

abbrev pub invariant-loop-i : goal.invariant-loop-i
invariant-loop-i l =
    (length l.entries ≡ length l.initial.entries) × Promises₃ (Begun l.p l.nodes l.initial.entries l.k l.from)
    (λ (s : List ℕ) (P : Protocol) (xs : List Node). Entered l.p l.nodes l.entries (l.from + l.i) s P xs)
