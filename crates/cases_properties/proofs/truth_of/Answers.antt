-- A property that passes, posed over right nodes, is what judge_nodes asks.
use Rattle.cases_properties.specs.Passes.{posed}
use borrow.Author.Rules.{rules}
use Rattle.cases_properties.proofs.truth_of.Goals as goal

pub judge_nodes-requires : goal.judge_nodes-requires
judge_nodes-requires c =
    (posed c.requires.0 c.requires.1, search rules)
