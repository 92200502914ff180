-- A value that holds a variable makes the node bad; without one values_fit decides.
use Rattle.steps.specs.Values.Loops.{held_bad}
use Rattle.steps.specs.Table.Laws.{node_listed}
use Rattle.steps.proofs.values.node_values.Goals as goal

pub returns-then-nodes-row-ne0 : goal.returns-then-nodes-row-ne0
returns-then-nodes-row-ne0 c =
    λ P x h. held_bad h c.if-nodes-row-ne0.true

pub place_of-place-requires : goal.place_of-place-requires
place_of-place-requires c =
    let h = c.requires.1.2 in
    (node_listed h, h.prepared.body.long)
