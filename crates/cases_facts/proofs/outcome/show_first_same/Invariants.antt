-- The room stays.
use Rattle.facts.specs.Writing.{fact_room}
use Rattle.facts.specs.Calls.{Room}
use Rattle.cases_facts.proofs.outcome.show_first_same.Given as goal

abbrev pub invariant-loop-x : goal.invariant-loop-x
invariant-loop-x g l = Room l.out fact_room
