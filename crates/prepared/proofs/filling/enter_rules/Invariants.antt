-- The invariant is that the first n rows are entered and what lies before the places is as it was; each turn adds a row.
use Rattle.prepared.specs.Filling.{Source, Rows}
use lib.ListN.{length}
use mathlib.Core.Path.{◌≡◌}
use Rattle.prepared.proofs.filling.enter_rules.Given as goal

abbrev pub invariant-loop-n : goal.invariant-loop-n
invariant-loop-n l =
    (length l.p ≡ length l.initial.p) × ((f : Source l.arities l.places (length l.places)) → Rows f l.initial.p l.p l.n)
