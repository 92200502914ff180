-- A prepared protocol, tables for the most nodes and edges, and a work area with all regions are what rule_graph asks.
use Rattle.graph.specs.Table.Room.{all_fields}
use Rattle.graph.specs.Table.{edge_table}
use Rattle.steps.specs.Table.Laws.{all_rows}
use Rattle.steps.specs.Table.{table_length}
use lib.ListN.{replicate}
use native.Mathlib.Omega.{arith}
use Rattle.cases_graphs.proofs.rule_prepared.Goals as goal

pub rule_graph-requires : goal.rule_graph-requires
rule_graph-requires c = (
  c.requires.0,
  omega (arith, c.requires.1),
  all_rows c.args.file.now (λ i. (c.type_inv.file i).fits) 0 (replicate table_length 0)
      (omega arith),
  all_fields c.args.file.now (replicate edge_table 0) (omega arith),
  omega arith,
)
