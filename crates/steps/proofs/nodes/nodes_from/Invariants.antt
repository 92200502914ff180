-- The invariant is that j nodes are read up to i into their rows; a fault or an unknown rule there is that of the whole list.
use Rattle.steps.specs.Nodes.Filling.{Passed}
use Rattle.prepared.specs.Prepared.{Prepared}
use Rattle.protocol.specs.Protocol.{Protocol}
use Rattle.lists.specs.Asks.{Promises}
use mathlib.Core.Path.{◌≡◌}
use lib.ListN.{length}
use Rattle.steps.proofs.nodes.nodes_from.Given as goal

abbrev pub invariant-loop-j : goal.invariant-loop-j
invariant-loop-j l =
    (length l.nodes ≡ length l.initial.nodes) × Promises (Prepared l.p) (λ (P : Protocol). Passed P l.p l.s l.at l.j l.i l.nodes)
