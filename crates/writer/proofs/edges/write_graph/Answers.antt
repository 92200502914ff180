-- Three writes that meet are one: the steps, the count, the edges.
use Rattle.writer.specs.Edges.Laws.{steps_room, count_room, numbers_room, graph_written}
use Rattle.writer.proofs.edges.write_graph.Goals as goal

pub copy_into-at-requires : goal.copy_into-at-requires
copy_into-at-requires c =
    let (es, h) = c.requires.0 in steps_room h c.args.output.now c.args.steps.now (c.requires.1 es h)

pub write_number-from-requires : goal.write_number-from-requires
write_number-from-requires c =
    let (es, h) = c.requires.0 in count_room h c.args.output.now c.args.steps.now (c.requires.1 es h) _ _ c.copy_into-at.ensures.next
    c.copy_into-at.ensures.wrote

pub write_numbers-requires : goal.write_numbers-requires
write_numbers-requires c =
    let (es, h) = c.requires.0 in numbers_room h c.args.output.now c.args.steps.now (c.requires.1 es h) _ _ c.copy_into-at.ensures.next
    c.copy_into-at.ensures.wrote _ _ c.write_number-from.ensures.next c.write_number-from.ensures.wrote

pub returns : goal.returns
returns c =
    λ es h. graph_written h c.args.output.now c.args.steps.now (c.requires.1 es h) _ _ c.copy_into-at.ensures.next c.copy_into-at.ensures.wrote
    _ _ c.write_number-from.ensures.next c.write_number-from.ensures.wrote _ c.write_numbers.ensures
