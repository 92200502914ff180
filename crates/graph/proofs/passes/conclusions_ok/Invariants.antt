-- The invariant is that the first i conclusions are free or used once at most; the first that is not makes it false.
use Rattle.lists.specs.Asks.{Promises₃}
use Rattle.protocol.specs.Protocol.{Protocol}
use Rattle.facts.specs.Calls.{NodeOf}
use Rattle.steps.specs.Nodes.{Node}
use mathlib.Core.List.{List}
use mathlib.Core.Bool.{true}
use mathlib.Core.Path.{◌≡◌}
use Prim.Native.Nat.{ℕ}
use Rattle.lists.specs.Below.{all_below}
use Rattle.graph.specs.Passes.{free_at}
use Rattle.graph.proofs.passes.conclusions_ok.Given as goal

abbrev pub invariant-loop-i : goal.invariant-loop-i
invariant-loop-i l =
    Promises₃ (NodeOf l.p l.nodes l.j) (λ (s : List ℕ) (P : Protocol) (x : Node). all_below (free_at P x l.uses l.j) l.i ≡ true)
