-- The room stays.
use Rattle.facts.specs.Writing.{fact_room}
use Rattle.facts.specs.Calls.{Room}
use Rattle.cases_facts.proofs.outcome.public_name.Given as goal

abbrev pub invariant-loop-i : goal.invariant-loop-i
invariant-loop-i l = Room l.out fact_room
