-- The invariant is that the first i places are entered and the walk stands at the next; the end of a fact is the place of the one behind it.
use lib.ListN.{length}
use mathlib.Core.Path.{◌≡◌}
use Rattle.prepared.specs.Sections.{prepared_length}
use Rattle.prepared.specs.Prepared.{body_of, fact_place_in}
use Rattle.prepared.specs.Lists.{FactsEntered}
use Rattle.prepared.proofs.list_places.enter_facts.Given as goal

abbrev pub invariant-loop-i : goal.invariant-loop-i
invariant-loop-i l =
    (length l.p ≡ prepared_length) × (l.at ≡ fact_place_in (body_of l.initial.p) l.list l.i) × FactsEntered l.list l.initial.p l.p l.row l.i
