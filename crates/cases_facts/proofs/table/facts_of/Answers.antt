-- A number below the list's count is that of a fact of the node; a table that is not full has room for it.
use Rattle.std.proofs.Common.{arith}
use Rattle.std.proofs.lemmas.List.Elements.{All-push}
use Rattle.facts.specs.Owed.{asks_node, has_fact}
use Rattle.cases_facts.specs.Table.{AreRight, IsFact}
use Rattle.cases_facts.proofs.table.facts_of.Goals as goal

pub fact_count-number-end-requires : goal.fact_count-number-end-requires
unfolding AreRight
fact_count-number-end-requires c = (asks_node c.requires _ c.loop-node-test.true, c.loop-list-test.true)

pub loop-number-preserved : goal.loop-number-preserved
unfolding IsFact
loop-number-preserved c = (
  grind arith,
  rw c.push.ensures.items (
      All-push (IsFact c.args.t) _ _ c.loop-number.invariant.1
      (has_fact c.loop-node-test.true c.fact_count-number-end.ensures _ (omega arith))),
)
