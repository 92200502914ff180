-- Facts of right nodes may be compared.
use Rattle.facts.specs.Owed.{asks_facts}
use Rattle.cases_facts.specs.Table.{AreRight, IsFact}
use Rattle.cases_facts.proofs.outcome.FactIdCompared.is_same.Goals as goal

pub same_fact-requires : goal.same_fact-requires
unfolding AreRight IsFact
same_fact-requires c = (asks_facts c.requires.2 c.requires.0 c.requires.1, c.requires.3)
