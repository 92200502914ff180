-- The row has the rule's number, and the prepared protocol the place of each fact of a rule.
use Rattle.facts.specs.Rules.{list_known, fact_few, fact_entered}
use Rattle.steps.specs.Table.Laws.{node_listed}
use mathlib.Core.Path.{◌∙◌}
use native.Mathlib.Omega.{arith}
use Rattle.facts.proofs.nodes.fact_place.Goals as goal

pub overflow_mul-number : goal.overflow_mul-number
overflow_mul-number c =
    omega (arith, c.requires.3.node.few)

pub bounds-nodes-x : goal.bounds-nodes-x
bounds-nodes-x c =
    omega (arith, c.requires.3.node.few, c.requires.3.node.long)

pub fact_place-requires : goal.fact_place-requires
fact_place-requires c = (
  node_listed c.requires.3.node,
  list_known c.requires.3.node _ _ c.requires.3.listed,
  fact_few c.requires.3.node _ _ c.requires.3.listed
      (λ k. (c.type_inv.p k).fits),
  c.requires.3.node.prepared.long,
)

pub returns : goal.returns
returns c =
    c.fact_place.ensures ∙ fact_entered c.requires.3.node _ _ c.requires.3.listed
