-- The table of edges that their reading fills: four numbers for each edge, in the file's order.
use Rattle.std.specs.Prelude.{ℕ, ◌+◌, ◌*◌, ◌≤◌, ◌<◌, List, ◌≡◌, length, get_or}
use Rattle.rewriting.specs.Graph.{Place, Edge}
use Rattle.protocol.specs.Protocol.{Protocol}
use Rattle.steps.specs.Nodes.{Node}
use Rattle.steps.specs.Table.{NodesIn}
use Rattle.steps.specs.Causes.Good.{RightNodes}
use Rattle.graph.specs.Graph.{Graph, place_of, edge_of, most_edges}
-- what reading leaves in it
pub mod Reading
-- tables that are long enough
pub mod Room

-- ── where things stand ──
-- "source node, conclusion, target node, premise"
abbrev pub edge_fields : ℕ
edge_fields = 4

-- where the ends of an edge begin
abbrev pub source_field : ℕ
source_field = 0

abbrev pub target_field : ℕ
target_field = 2

-- fields for the most edges
abbrev pub edge_table : ℕ
edge_table = edge_fields * most_edges

-- a table has fields for m edges
abbrev pub FieldsFor : List ℕ → ℕ → Type 0
FieldsFor edges m = edge_fields * m ≤ length edges

-- for as many edges as the bytes of a file can hold
abbrev pub FieldsOf : List ℕ → List ℕ → Type 0
FieldsOf s edges = (m : ℕ) → m ≤ most_edges → edge_fields * m ≤ length s → FieldsFor edges m

-- ── a table for small files ──
abbrev pub few_fields : ℕ
few_fields = 1024

-- ── what stands there ──
abbrev pub end_at : List ℕ → ℕ → Place
end_at edges i = place_of (get_or edges i 0) (get_or edges (i + 1) 0)

-- edge j, from 0
abbrev pub edge_at : List ℕ → ℕ → Edge
edge_at edges j = edge_of (end_at edges (edge_fields * j + source_field)) (end_at edges (edge_fields * j + target_field))

-- where a list has no edge of some number
abbrev pub no_edge : Edge
no_edge = edge_of (place_of 0 0) (place_of 0 0)

pub record EdgesIn (edges : List ℕ) (m : ℕ) (es : List Edge) : Type 0 where
  pub count : length es ≡ m
  pub few : m ≤ most_edges
  pub each : (j : ℕ) → j < m → get_or es j no_edge ≡ edge_at edges j
  pub long : FieldsFor edges m

-- ── as contracts ask ──
-- n nodes in their table, whatever their file is
abbrev pub NodesOf : List ℕ → List ℕ → ℕ → List ℕ → Protocol → List Node → Type 0
NodesOf p nodes n s = NodesIn p s nodes n

-- nodes and edges in their tables, as they were read
pub record ReadIn (p s nodes : List ℕ) (n : ℕ) (edges : List ℕ) (m : ℕ) (P : Protocol) (g : Graph) : Type 0 where
  pub nodes_in : NodesIn p s nodes n P g.nodes
  pub edges_in : EdgesIn edges m g.edges

-- right nodes and edges
pub record GraphIn (p s nodes : List ℕ) (n : ℕ) (edges : List ℕ) (m : ℕ) (P : Protocol) (g : Graph) : Type 0 where
  pub nodes_in : RightNodes p s nodes n P g.nodes
  pub edges_in : EdgesIn edges m g.edges

abbrev pub GraphOf : List ℕ → List ℕ → ℕ → List ℕ → ℕ → List ℕ → Protocol → Graph → Type 0
GraphOf p nodes n edges m s = GraphIn p s nodes n edges m
