-- A number below the arity is that of an argument of the fact; a table that is not full has room for it.
use Rattle.std.proofs.Common.{arith}
use Rattle.std.proofs.lemmas.List.Elements.{All-push}
use Rattle.facts.specs.Owed.{asks_listed, has_one}
use Rattle.cases_facts.specs.Table.{AreRight, IsFact, IsArgument}
use Rattle.cases_facts.proofs.table.arguments_of.Goals as goal

pub argument_count-number-end-requires : goal.argument_count-number-end-requires
unfolding AreRight IsFact
argument_count-number-end-requires c = asks_listed c.requires.0 (c.requires.1 _ _ c.loop-x-test.true)

pub loop-number-preserved : goal.loop-number-preserved
unfolding IsFact IsArgument
loop-number-preserved c = (
  grind arith,
  rw c.push.ensures.items (
      All-push (IsArgument c.args.t) _ _ c.loop-number.invariant.1
      (has_one (c.requires.1 _ _ c.loop-x-test.true) c.argument_count-number-end.ensures _ (omega arith))),
)
