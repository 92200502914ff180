-- The invariant is that entry e is not before the node's first; it is the node's where the next one's begin behind it.
use Rattle.judge.specs.Tables.{Past}
use lib.ListN.{length}
use Prim.Native.Nat.{◌-◌}
use Rattle.judge.proofs.entries.node_of.Given as goal

abbrev pub invariant-loop-node : goal.invariant-loop-node
invariant-loop-node l =
    Past l.starts l.node l.e

abbrev pub decreases-loop-node : goal.decreases-loop-node
decreases-loop-node l =
    length l.starts - l.node
