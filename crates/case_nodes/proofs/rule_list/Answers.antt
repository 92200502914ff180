-- The nodes of a list that passes are right in their table.
use native.Mathlib.Omega.{arith}
use Rattle.steps.specs.Table.Laws.{all_rows}
use Rattle.case_nodes.specs.Good.{where_good}
use Rattle.case_nodes.proofs.rule_list.Goals as goal

pub rule_steps-requires : goal.rule_steps-requires
rule_steps-requires c =
    (c.requires.0, c.requires.1, all_rows c.args.list.now (λ i. (c.type_inv.list i).fits) 0 c.args.nodes.now (omega arith))

pub returns : goal.returns
returns c = where_good _ _ _ c.rule_steps.result (λ k. (c.type_inv.list k).fits) c.requires.0 c.requires.1 c.rule_steps.ensures.good
