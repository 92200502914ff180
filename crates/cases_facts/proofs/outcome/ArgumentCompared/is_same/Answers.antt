-- Arguments of facts of right nodes may be compared.
use Rattle.facts.specs.Owed.{asks_facts}
use Rattle.cases_facts.specs.Table.{AreRight, IsArgument}
use Rattle.cases_facts.proofs.outcome.ArgumentCompared.is_same.Goals as goal

pub same_argument-requires : goal.same_argument-requires
unfolding AreRight IsArgument
same_argument-requires c = (asks_facts c.requires.2 c.requires.0 c.requires.1, c.requires.3)
