-- The table holds no more than its most, and all that was pushed are facts of the nodes.
use Rattle.std.specs.Prelude.{◌≤◌}
use Rattle.std.specs.List.{All}
use Rattle.arrayvec.specs.ArrayVec.{array_vec_len}
use Rattle.cases_facts.specs.Table.{IsFact, most_facts}
use Rattle.cases_facts.proofs.table.facts_of.Given as goal

abbrev pub invariant-loop-node : goal.invariant-loop-node
invariant-loop-node l = (array_vec_len l.facts ≤ most_facts) × All (IsFact l.t) l.facts.items

abbrev pub invariant-loop-list : goal.invariant-loop-list
invariant-loop-list l = (array_vec_len l.facts ≤ most_facts) × All (IsFact l.t) l.facts.items

abbrev pub invariant-loop-number : goal.invariant-loop-number
invariant-loop-number l = (array_vec_len l.facts ≤ most_facts) × All (IsFact l.t) l.facts.items
