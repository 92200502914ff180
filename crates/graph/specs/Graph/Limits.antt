-- A graph of nodes within the limits that is accepted keeps within the limits too, "count of edges (4,096)": a node has at most 8 premises, and an
-- edge takes at most 6 bytes. Its bytes are bytes.
use Rattle.std.specs.Prelude.{ℕ, suc, ◌+◌, ◌*◌, ◌≤◌, List, [], ◌∷◌, ◌≡◌, refl, length}
use Rattle.std.specs.Prelude.{Option, Some, None}
use Rattle.std.proofs.lemmas.Option.{none-some}
use Rattle.std.proofs.Common.{ap, sym, ◌∙◌, arith, length-append}
use Rattle.lists.specs.All.{All}
use Rattle.lists.specs.All.Laws.{all_map, all_nth, nth_all}
use Rattle.lists.specs.Lists.{nth}
use Rattle.lists.specs.Lists.Laws.{nth_mem, map_nth, nth_bound}
use Rattle.octets.specs.Head.{Bytes, bytes_join}
use Rattle.number.specs.Groups.{groups, number_limit}
use Rattle.number.specs.Groups.Laws.{groups_few, groups_bytes}
use Rattle.number.specs.Layout.{flat, listed}
use Rattle.number.specs.Layout.Laws.{flat_short, flat_bytes}
use Rattle.rewriting.specs.Facts.{Tested}
use Rattle.rewriting.specs.Graph as theory
use Rattle.rewriting.specs.Graph.{Place, Edge, Joins, in_node}
use Rattle.rewriting.specs.Size.{premise_count}
use Rattle.protocol.specs.Figures.{premise_list, conclusion_list, most_facts}
use Rattle.protocol.specs.Protocol.{Fact, Protocol}
use Rattle.protocol.specs.Protocol.Limits.{Within}
use Rattle.steps.specs.Nodes.{Node, most_nodes, encode_nodes, NodeWithin, NodesWithin}
use Rattle.steps.specs.Facts.{facts_of}
use Rattle.steps.specs.Facts.Counts.{facts_few}
use Rattle.steps.specs.Runs.{protocol_facts, rewritten, rewrittens, Accepted}
use Rattle.steps.specs.Runs.Theorems.{accepted_size}
use Rattle.graph.specs.Graph.{graph_of_lem, most_edges, encode_place, encode_edge, encode_graph, PlaceBelow, EdgeBelow, GraphWithin}

-- ── lengths ──
-- of the count of edges, and of an edge
abbrev pub count_bytes : ℕ
count_bytes = 2

abbrev pub edge_bytes : ℕ
edge_bytes = 6

-- a place of at most 512 nodes and 8 facts
abbrev PlaceFew : Place → Type 0
PlaceFew a = (a.node ≤ most_nodes) × (a.index ≤ most_facts)

place_short : (a : Place) → PlaceFew a → length (encode_place a) ≤ 3
place_short a (l, m) =
    omega (arith, length-append (groups a.node) (groups a.index), groups_few 1 a.node (omega arith), groups_few 0 a.index (omega arith))

place_within : (a : Place) → PlaceFew a → PlaceBelow number_limit a
unfolding number_limit
place_within a (l, m) = (omega arith, omega arith)

module _ (p : Protocol) (fit : Within p) where
  premises_few : (xs : List Node) → All (NodeWithin p) xs → premise_count (rewrittens p xs) ≤ most_facts * length xs
  premises_few [] w = omega arith
  premises_few (x ∷ xs) w =
      let r = premises_few xs w.1 in
      let e : most_facts * suc (length xs) ≡ most_facts + most_facts * length xs = omega arith in
      omega (arith, r, e, facts_few p fit x w.0 premise_list)

  module _ (xs : List Node) (within : NodesWithin p xs) where
    -- where a fact stands
    place_few :
        (part : theory.Node Fact → List Fact) (list : ℕ) → ((x : Node) → part (rewritten p x) ≡ facts_of p list x) → (a : Place) (f : Fact)
        → theory.fact_at part (rewrittens p xs) a ≡ Some f → PlaceFew a
    place_few part list same a f h = go (nth (rewrittens p xs) a.node) refl h
      where
        go : (o : Option (theory.Node Fact)) → nth (rewrittens p xs) a.node ≡ o → in_node part a.index o ≡ Some f → PlaceFew a
        go None e q = absurd (none-some f q)
        go (Some y) e q =
            let (x, i, j) = map_nth (rewritten p) xs a.node y e in
            let k : nth (facts_of p list x) a.index ≡ Some f = ap (λ (l : List Fact). nth l a.index) (sym (same x) ∙ ap part j) ∙ q in
            let few = facts_few p fit x (all_nth (NodeWithin p) xs within.each a.node x i) list in (
              omega (arith, within.few, nth_bound xs a.node x i),
              omega (arith, few, nth_bound (facts_of p list x) a.index f k),
            )

    abbrev EdgeFew : Edge → Type 0
    EdgeFew e = PlaceFew e.source × PlaceFew e.target

    edge_few : (e : Edge) → Joins (Tested (protocol_facts p)) (rewrittens p xs) e → EdgeFew e
    edge_few e j = (
      place_few (λ y. y.conclusions) conclusion_list (λ x. refl) e.source j.from j.has_source,
      place_few (λ y. y.premises) premise_list (λ x. refl) e.target j.to j.has_target,
    )

    module _ (es : List Edge) (accepted : Accepted p xs es) where
      edges_few : All EdgeFew es
      edges_few = nth_all EdgeFew es (λ k e h. edge_few e (accepted.joins e (nth_mem es e k h)))

      -- one edge a premise
      pub few_edges : length es ≤ most_edges
      few_edges = omega (arith, accepted_size p xs es accepted, premises_few xs within.each, within.few)

      pub graph_within : GraphWithin p (graph_of_lem xs es)
      graph_within = (
        within,
        (
          few_edges,
          all_map EdgeFew (EdgeBelow number_limit) (λ e h. (place_within e.source h.0, place_within e.target h.1)) es edges_few,
        ),
      )

      edge_short : (e : Edge) → EdgeFew e → length (encode_edge e) ≤ edge_bytes
      edge_short e h =
          omega (
            arith,
            length-append (encode_place e.source) (encode_place e.target),
            place_short e.source h.0,
            place_short e.target h.1,
          )

      pub graph_short : length (encode_graph (graph_of_lem xs es)) ≤ length (encode_nodes xs) + count_bytes + edge_bytes * most_edges
      graph_short =
          omega (
            arith,
            length-append (encode_nodes xs) (listed encode_edge es),
            length-append (groups (length es)) (flat encode_edge es),
            groups_few 1 (length es) (omega (arith, few_edges)),
            flat_short encode_edge edge_bytes es (all_map EdgeFew (λ e. length (encode_edge e) ≤ edge_bytes) edge_short es edges_few),
            few_edges,
          )

-- ── bytes ──
place_bytes : (a : Place) → Bytes (encode_place a)
place_bytes a = bytes_join (groups a.node) (groups a.index) (groups_bytes a.node) (groups_bytes a.index)

edge_bytes_lem : (e : Edge) → Bytes (encode_edge e)
edge_bytes_lem e = bytes_join (encode_place e.source) (encode_place e.target) (place_bytes e.source) (place_bytes e.target)

-- the bytes of a graph whose nodes' bytes are bytes
pub graph_bytes : (xs : List Node) (es : List Edge) → Bytes (encode_nodes xs) → Bytes (encode_graph (graph_of_lem xs es))
graph_bytes xs es b =
    bytes_join (encode_nodes xs) (listed encode_edge es) b
    (bytes_join (groups (length es)) (flat encode_edge es) (groups_bytes (length es)) (flat_bytes encode_edge edge_bytes_lem es))
