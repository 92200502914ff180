-- The invariant is that j numbers are read up to i and stand in the table; each turn adds one.
use lib.ListN.{length}
use mathlib.Core.Path.{◌≡◌}
use Rattle.graph.specs.Table.Reading.{NumbersAre}
use Rattle.graph.proofs.edges.read_numbers.Given as goal

abbrev pub invariant-loop-j : goal.invariant-loop-j
invariant-loop-j l =
    (length l.edges ≡ length l.initial.edges) × NumbersAre l.s l.at l.j l.edges l.i
