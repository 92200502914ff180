-- The room stays.
use Rattle.facts.specs.Writing.{fact_room}
use Rattle.facts.specs.Calls.{Room}
use Rattle.cases_facts.proofs.outcome.first_same.Given as goal

abbrev pub invariant-loop-i : goal.invariant-loop-i
invariant-loop-i g l = Room l.out fact_room
