-- The invariant is that `active` counts those of the first k nodes; a node has an action exactly if the next one's begin later.
use lib.ListN.{length, take}
use mathlib.Core.Path.{◌≡◌}
use mathlib.Core.List.{List}
use Prim.Native.Nat.{◌≤◌}
use Rattle.steps.specs.Nodes.{Node}
use Rattle.protocol.specs.Protocol.{Protocol}
use Rattle.lists.specs.Lists.{count_by}
use Rattle.lists.specs.Asks.{Promises₂}
use Rattle.trace.specs.Tables.{Starts}
use Rattle.trace.specs.Active.{is_active}
use Rattle.trace.proofs.active.active_nodes.Given as goal

abbrev pub invariant-loop-k : goal.invariant-loop-k
invariant-loop-k l =
    (l.active ≤ l.k) × Promises₂ (Starts l.starts) (λ (P : Protocol) (xs : List Node). length xs ≡ l.n → l.active ≡ count_by (is_active P) (take l.k xs))
