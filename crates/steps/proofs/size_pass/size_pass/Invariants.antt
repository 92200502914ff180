-- The invariant is that searching on from node j finds what searching all finds; the first bad node ends it.
use Rattle.steps.specs.Values.Scan.{Rest}
use Rattle.steps.specs.Values.Tests.{node_terms_ok}
use Rattle.steps.specs.Table.{NodesIn}
use Rattle.steps.specs.Nodes.{Node, no_node}
use Rattle.protocol.specs.Protocol.{Protocol}
use Rattle.lists.specs.Asks.{Promises₂}
use mathlib.Core.List.{List}
use Rattle.steps.proofs.size_pass.size_pass.Given as goal

abbrev pub invariant-loop-j : goal.invariant-loop-j
invariant-loop-j l =
    Promises₂ (NodesIn l.p l.s l.nodes l.n) (λ (P : Protocol) (xs : List Node). Rest (λ k. node_terms_ok P) no_node xs l.j)
