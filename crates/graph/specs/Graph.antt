-- Dependency graphs: nodes and edges, their bytes, and their reading, "front to back for 3 and 6".
use Rattle.std.specs.Prelude.{ℕ, ◌≤◌, ◌<◌, List, ◌++◌, length}
use Rattle.lists.specs.All.{All}
use Rattle.number.specs.Groups.{groups, number_limit}
use Rattle.number.specs.Reading.{Read, got, and_then, read_number, counted}
use Rattle.number.specs.Layout.{listed}
use Rattle.rewriting.specs.Graph.{Place, Edge}
use Rattle.protocol.specs.Protocol.{Protocol}
use Rattle.steps.specs.Nodes.{Node, encode_nodes, NodesBelow, Reading, read, onward, plainly, all_of, node_list}
-- an accepted graph keeps within the limits
pub mod Limits
-- a larger limit of numbers
pub mod Wider

-- ── graphs ──
-- "as steps, then count of edges (4,096), each source node, conclusion, target node, premise, all from 1, in any order"
pub record Graph : Type 0 where
  pub nodes : List Node
  pub edges : List Edge

abbrev pub graph_of_lem : List Node → List Edge → Graph
graph_of_lem xs es = record { nodes = xs; edges = es }

abbrev pub place_of : ℕ → ℕ → Place
place_of n i = record { node = n; index = i }

abbrev pub edge_of : Place → Place → Edge
edge_of a b = record { source = a; target = b }

-- "count of edges (4,096)"
abbrev pub most_edges : ℕ
most_edges = 4096

-- ── bytes ──
abbrev pub encode_place : Place → List ℕ
encode_place a = groups a.node ++ groups a.index

abbrev pub encode_edge : Edge → List ℕ
encode_edge e = encode_place e.source ++ encode_place e.target

-- the nodes as in a step list, the count of edges, and then the edges
abbrev pub encode_graph : Graph → List ℕ
encode_graph g = encode_nodes g.nodes ++ listed encode_edge g.edges

-- ── the limits, with numbers below `limit` ──
module _ (limit : ℕ) where
  abbrev pub PlaceBelow : Place → Type 0
  PlaceBelow a = (a.node < limit) × (a.index < limit)

  abbrev pub EdgeBelow : Edge → Type 0
  EdgeBelow e = PlaceBelow e.source × PlaceBelow e.target

  abbrev pub EdgesBelow : List Edge → Type 0
  EdgesBelow es = (length es ≤ most_edges) × All EdgeBelow es

  abbrev pub GraphBelow : Protocol → Graph → Type 0
  GraphBelow p g = NodesBelow limit p g.nodes × EdgesBelow g.edges

-- with the numbers that a file can hold
abbrev pub GraphWithin : Protocol → Graph → Type 0
GraphWithin = GraphBelow number_limit

-- ── reading ──
module _ (file : List ℕ) where
  unfoldable pub place : ℕ → Read Place
  place at = and_then (read_number file at) (λ n e. and_then (read_number file e) (λ i f. got (place_of n i) f))

  unfoldable pub edge : ℕ → Read Edge
  edge at = and_then (place at) (λ a e. and_then (place e) (λ b f. got (edge_of a b) f))

  unfoldable pub edge_list : ℕ → Read (List Edge)
  edge_list at = counted file most_edges edge at

  -- the nodes, and behind them the edges
  abbrev pub with_edges : List Node → ℕ → Reading Graph
  with_edges xs at = plainly (edge_list at) (λ es e. read (graph_of_lem xs es) e)

  abbrev pub parts : Protocol → Reading Graph
  parts p = onward (node_list p file 0) with_edges

  -- and nothing behind those
  unfoldable pub graph : Protocol → Reading Graph
  graph p = all_of file (parts p)
