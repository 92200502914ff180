-- An argument of a fact of a right node may be compared with a name.
use Rattle.facts.specs.Owed.{asks_fact}
use Rattle.cases_facts.specs.Table.{AreRight, IsArgument}
use Rattle.cases_facts.proofs.outcome.public_name.Goals as goal

pub is_public-requires : goal.is_public-requires
unfolding AreRight IsArgument
is_public-requires c = (asks_fact c.requires.0 c.requires.1, c.loop-i.invariant)
