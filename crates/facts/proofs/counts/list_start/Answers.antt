-- The row's rule number has an entry in the table of list places.
use native.Mathlib.Omega.{arith}
use Rattle.steps.specs.Table.Laws.{node_listed}
use Rattle.facts.proofs.counts.list_start.Goals as goal

pub overflow_mul-number : goal.overflow_mul-number
overflow_mul-number c =
    omega (arith, c.requires.0.3.few)

pub bounds-nodes-j : goal.bounds-nodes-j
bounds-nodes-j c =
    omega (arith, c.requires.0.3.few, c.requires.0.3.long)

pub list_place-requires : goal.list_place-requires
list_place-requires c =
    (node_listed c.requires.0.3, c.requires.1, c.requires.0.3.prepared.long)
