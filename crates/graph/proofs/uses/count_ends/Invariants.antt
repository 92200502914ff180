-- The invariant is that each byte counts the ends among the first j edges, capped at 2; each turn adds one end.
use lib.ListN.{length}
use mathlib.Core.Path.{◌≡◌}
use Rattle.graph.specs.Uses.{Counted}
use Rattle.graph.proofs.uses.count_ends.Given as goal

abbrev pub invariant-loop-j : goal.invariant-loop-j
invariant-loop-j l =
    (length l.counts ≡ length l.initial.counts) × Counted l.edges l.j l.field l.counts
