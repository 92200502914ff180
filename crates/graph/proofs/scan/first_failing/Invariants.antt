-- The items so far pass.
use Rattle.std.proofs.Common.{ℕ, ◌<◌, true}
use Rattle.graph.proofs.scan.first_failing.Given as goal

abbrev pub invariant-loop-j : goal.invariant-loop-j
invariant-loop-j g l =
    (i : ℕ) → i < l.j → goal.F-post g l.ok i true
