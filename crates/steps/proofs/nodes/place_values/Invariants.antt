-- The invariant is that v values are read up to i, their places and sizes entered, their variables told; each turn adds a value.
use Rattle.steps.specs.Nodes.Filling.{Placing}
use lib.ListN.{length}
use mathlib.Core.Path.{◌≡◌}
use Rattle.steps.proofs.nodes.place_values.Given as goal

abbrev pub invariant-loop-v : goal.invariant-loop-v
invariant-loop-v l =
    (length l.nodes ≡ length l.initial.nodes) × Placing l.s l.arities l.at l.to l.initial.nodes l.v l.i l.held l.nodes
