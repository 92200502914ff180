-- The invariant is that the entries are the names that the nodes before j make, and that searching on from node j finds what searching all finds.
use Rattle.steps.specs.Names.Laws.{NamesLeft}
use Rattle.steps.specs.Names.{Entered}
use Rattle.steps.specs.Table.{NodesIn}
use Rattle.steps.specs.Nodes.{no_node, Node}
use Rattle.protocol.specs.Protocol.{Protocol}
use Rattle.lists.specs.Asks.{Promises₂}
use Prim.Native.Nat.{◌≤◌}
use lib.ListN.{length}
use mathlib.Core.List.{List}
use mathlib.Core.Path.{◌≡◌}
use Rattle.steps.proofs.names.pass_in.Given as goal

abbrev pub invariant-loop-j : goal.invariant-loop-j
invariant-loop-j g l =
    (l.made ≤ l.j) × (length l.names ≡ g.row.N)
    × Promises₂ (NodesIn l.p l.s l.nodes l.n) (λ (P : Protocol) (xs : List Node). Entered l.names l.made xs l.j × NamesLeft P no_node xs l.j)
