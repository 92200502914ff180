-- The nodes of a good case are right.
use Rattle.cases_facts.specs.Table.{AreRight}
use Rattle.cases_facts.proofs.show_case.Goals as goal

pub show_nodes-requires : goal.show_nodes-requires
unfolding AreRight
show_nodes-requires g c = c.in-Ok.ensures
