-- Rows for few nodes are enough where the count says few, those for the most nodes always.
use lib.ListN.{replicate}
use Rattle.steps.specs.Table.{row_length, few_nodes, table_length}
use Prim.Native.Nat.{◌*◌}
use Rattle.steps.specs.Table.Laws.{few_rows, all_rows}
use native.Mathlib.Omega.{arith}
use Rattle.checker.proofs.drawing.draw_steps.Goals as goal

pub draw_with-requires : goal.draw_with-requires
draw_with-requires c = (
  c.requires.0,
  c.requires.1,
  few_rows c.args.steps.now (c.few_nodes.ensures c.if-few_nodes.true) (replicate (row_length * few_nodes) 0) (omega arith),
  c.requires.2,
)

pub draw_with-requires-2 : goal.draw_with-requires-2
draw_with-requires-2 c = (
  c.requires.0,
  c.requires.1,
  all_rows c.args.steps.now (λ i. (c.type_inv.steps i).fits) 0 (replicate table_length 0) (omega arith),
  c.requires.2,
)
