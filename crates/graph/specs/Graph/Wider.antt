-- A graph that keeps to the limits with numbers below one limit keeps to them with a larger one.
use Rattle.std.specs.Prelude.{ℕ, ◌≤◌}
use Rattle.std.proofs.Common.{arith}
use Rattle.lists.specs.All.Laws.{all_map}
use Rattle.rewriting.specs.Graph.{Place, Edge}
use Rattle.protocol.specs.Protocol.{Protocol}
use Rattle.steps.specs.Nodes.Wider.{nodes_wider}
use Rattle.graph.specs.Graph.{Graph, PlaceBelow, EdgeBelow, GraphBelow}

module _ (limit more : ℕ) (wider : limit ≤ more) where
  place_wider : (a : Place) → PlaceBelow limit a → PlaceBelow more a
  place_wider a h = (omega (arith, h.0), omega (arith, h.1))

  edge_wider : (e : Edge) → EdgeBelow limit e → EdgeBelow more e
  edge_wider e h = (place_wider e.source h.0, place_wider e.target h.1)

  pub graph_wider : (p : Protocol) (g : Graph) → GraphBelow limit p g → GraphBelow more p g
  graph_wider p g h = (
    nodes_wider limit more wider p g.nodes h.0,
    (h.1.0, all_map (EdgeBelow limit) (EdgeBelow more) edge_wider g.edges h.1.1),
  )
