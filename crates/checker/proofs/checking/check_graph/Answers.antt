-- Small tables where the file is short and its count says few nodes; both answers are the graph's.
use lib.ListN.{replicate}
use Prim.Native.Nat.{◌*◌}
use Rattle.steps.specs.Table.{row_length, few_nodes, table_length}
use Rattle.steps.specs.Table.Laws.{few_rows, all_rows}
use Rattle.graph.specs.Table.{few_fields, edge_table}
use Rattle.graph.specs.Table.Room.{few_fields_lem, all_fields}
use native.Mathlib.Omega.{arith}
use Rattle.checker.proofs.checking.check_graph.Goals as goal

pub check_within-requires : goal.check_within-requires
check_within-requires c = (
  c.requires.0,
  c.requires.1,
  record {
    nodes = few_rows c.args.graph.now (c.few_nodes.ensures c.if-few_nodes.true) (replicate (row_length * few_nodes) 0) (omega arith);
    edges = few_fields_lem c.args.graph.now (replicate few_fields 0) c.if-graph-le-FEW_FIELDS.true;
    rows_few = omega arith;
    fields_few = omega arith;
  },
  c.requires.2,
)

pub check_within-requires-2 : goal.check_within-requires-2
check_within-requires-2 c = (
  c.requires.0,
  c.requires.1,
  record {
    nodes = all_rows c.args.graph.now (λ i. (c.type_inv.graph i).fits) 0 (replicate table_length 0) (omega arith);
    edges = all_fields c.args.graph.now (replicate edge_table 0) (omega arith);
    rows_few = omega arith;
    fields_few = omega arith;
  },
  c.requires.2,
)
