-- The room stays.
use Rattle.facts.specs.Writing.{fact_room}
use Rattle.facts.specs.Calls.{Room}
use Rattle.cases_facts.proofs.outcome.show_names.Given as goal

abbrev pub invariant-loop-a : goal.invariant-loop-a
invariant-loop-a g l = Room l.out fact_room
