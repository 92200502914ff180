-- The ruling of a graph file: "then the graph front to back for 3 and 6, then 7 to 13".
use Rattle.std.specs.Prelude.{ℕ, List, ◌++◌, ◌≡◌}
use Rattle.lists.specs.All.{All}
use Rattle.number.specs.Groups.{number_limit}
use Rattle.rewriting.specs.Table.{Ruling, Row, and_then, rows_after}
use Rattle.rewriting.specs.Checker.{check_graph}
use Rattle.protocol.specs.Protocol.{Protocol}
use Rattle.steps.specs.Values.{NodeRight, value_rows}
use Rattle.steps.specs.Runs.{protocol_facts, rewrittens}
use Rattle.steps.specs.Runs.Equations.{AcceptedSame, graph_rows_same}
use Rattle.steps.specs.Causes.{graph_item, read_rows, read_ruling, value_ruling}
use Rattle.graph.specs.Graph.{Graph, GraphBelow, encode_graph, graph}

module _ (p : Protocol) where
  -- ── 7 to 13 ──
  abbrev pub graph_rows : Graph → List Row
  graph_rows g = value_rows p g.nodes ++ graph_rows_same p g.nodes g.edges

  abbrev pub ruling : Graph → Ruling Graph
  ruling g = value_ruling p g.nodes (check_graph (protocol_facts p) (rewrittens p g.nodes) g.edges g)

  -- ── the whole file ──
  abbrev pub graph_file_rows : List ℕ → List Row
  graph_file_rows file = read_rows graph_item (graph file p) ++ rows_after (read_ruling graph_item (graph file p)) graph_rows

  unfoldable pub graph_ruling : List ℕ → Ruling Graph
  graph_ruling file = and_then (read_ruling graph_item (graph file p)) ruling

  -- "a graph is accepted exactly when it is a dependency graph of its protocol in document 01's forms and sizes": the file is the
  -- encoding of nodes and edges within the sizes, the values are right and the filled-in terms fit, and it is accepted by the equations
  pub record DependencyBelow (limit : ℕ) (file : List ℕ) (g : Graph) : Type 0 where
    pub within : GraphBelow limit p g
    pub bytes : file ≡ encode_graph g
    pub right : All (NodeRight p) g.nodes
    pub accepted : AcceptedSame p g.nodes g.edges

  -- with the numbers that a file can hold
  abbrev pub DependencyGraph : List ℕ → Graph → Type 0
  DependencyGraph = DependencyBelow number_limit
