-- The invariant is that sorts and values from v on decide; each turn tests one value against its variable's sort.
use Rattle.steps.specs.Values.Loops.{Left}
use Rattle.steps.specs.Table.{RowsFor, NodeIn}
use Rattle.steps.specs.Nodes.{Node, most_nodes}
use Rattle.protocol.specs.Protocol.{Protocol}
use Rattle.protocol.specs.Figures.{most_variables}
use Prim.Native.Nat.{◌+◌, ◌≤◌, ◌<◌}
use mathlib.Core.Path.{◌≡◌}
use lib.ListN.{length}
use Rattle.steps.proofs.values.values_fit.Given as goal

abbrev pub invariant-loop-v : goal.invariant-loop-v
invariant-loop-v l =
    (length l.out ≡ length l.initial.out) × (l.k ≤ most_variables) × (l.j < most_nodes) × RowsFor l.nodes (l.j + 1) ×
    ((P : Protocol) (x : Node) (h : NodeIn l.p l.s l.nodes l.j P x) → Left h l.v)
