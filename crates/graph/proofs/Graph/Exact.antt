-- A graph file is read exactly: what is within the limits reads back from its bytes, and what reads is within them and is its bytes.
use Prim.Native.Nat.{ℕ, ◌+◌, ◌<◌, ◌≤◌}
use mathlib.Core.List.{List, [], ◌++◌, append-nil}
use Rattle.std.specs.Prelude.{Bool, ◌↔◌, ◌≡◌, refl}
use Rattle.std.proofs.Math.Path.{ap, sym, subst}
use Rattle.std.proofs.Common.{◌∙◌, eq-eqb}
use native.Mathlib.Omega.{arith}
use Rattle.std.proofs.Math.ListN.{length, drop, drop_of_length-le, length-append}
use Rattle.lists.specs.Choice.{pick, cut_eq, clash}
use Rattle.octets.specs.Head.{Bytes, behind, stands_join}
use Rattle.number.specs.Groups.{groups, number_limit}
use Rattle.number.specs.Reading.{Read, got, fault, read_number}
use Rattle.number.specs.Layout.{listed, Exact}
use Rattle.number.specs.Layout.Laws.{number_exact, then_exact, counted_exact}
use Rattle.rewriting.specs.Graph.{Edge}
use Rattle.protocol.specs.Protocol.{Protocol}
use Rattle.steps.specs.Nodes.{Node, Reading, read, broken, no_rule, encode_nodes, onward, plainly, all_of, node_list}
use Rattle.steps.specs.Nodes.Unknown.{RuleMissing, all_rule, no_rule_exactly}
use Rattle.steps.specs.Nodes.Exact.{cut_read, cut_plain, nodes_back, nodes_form}
use Rattle.graph.specs.Graph.{Graph, graph_of_lem, place_of, edge_of, most_edges, encode_place, encode_edge, encode_graph}
use Rattle.graph.specs.Graph.{PlaceBelow, EdgeBelow, EdgesBelow, GraphWithin, place, edge, edge_list, with_edges, parts, graph}

most_small : most_edges < number_limit
unfolding number_limit
most_small = omega arith

module _ (file : List ℕ) (bytes : Bytes file) where
  place_exact : Exact file (place file) (PlaceBelow number_limit) encode_place
  unfolding place
  place_exact =
      then_exact file (read_number file) (λ v. v < number_limit) groups (number_exact file bytes)
      (λ n. read_number file) (λ n i. i < number_limit) groups (λ n l. number_exact file bytes)
      place_of (λ a. a.node) (λ a. a.index) (λ a. refl) (λ n i. refl) (λ n i. refl)

  edge_exact : Exact file (edge file) (EdgeBelow number_limit) encode_edge
  unfolding edge
  edge_exact =
      then_exact file (place file) (PlaceBelow number_limit) encode_place place_exact
      (λ a. place file) (λ a. PlaceBelow number_limit) encode_place (λ a w. place_exact)
      edge_of (λ e. e.source) (λ e. e.target) (λ e. refl) (λ a b. refl) (λ a b. refl)

  pub edges_exact : Exact file (edge_list file) (EdgesBelow number_limit) (listed encode_edge)
  unfolding edge_list
  edges_exact = counted_exact file (edge file) (EdgeBelow number_limit) encode_edge edge_exact bytes most_edges most_small

  module _ (p : Protocol) where
    -- what reads is within the limits, and the file is its bytes
    pub graph_form : (g : Graph) (e : ℕ) → graph file p ≡ read g e → GraphWithin p g × (file ≡ encode_graph g) × (e ≡ length file)
    unfolding graph
    graph_form g e h =
        cut_read (parts file p) _ h (λ g' d hg h. cut_eq _ _ _ d (length file) h
        (λ q h. cut_read (node_list p file 0) _ hg (λ xs c hx k. cut_plain (edge_list file c) _ k (λ es d' he k.
        let a : graph_of_lem xs es ≡ g = cc in
        let b : d' ≡ e = cc in
        let f = nodes_form p file bytes xs 0 c hx in
        let i = edges_exact.form es c d' he in
        let s = stands_join f.1 i.1 in
        let j : d' ≡ d = cc in
        let m : length file ≤ d' = omega arith in
        let n : drop d' file ≡ [] = drop_of_length-le file m in
        let whole : file ≡ encode_graph (graph_of_lem xs es) =
        s.there ∙ ap (λ (l : List ℕ). encode_graph (graph_of_lem xs es) ++ l) n ∙ append-nil (encode_graph (graph_of_lem xs es)) in
        let (within, is) = subst (λ (z : Graph). GraphWithin p z × (file ≡ encode_graph z)) a ((f.0, i.0), whole) in
        (within, is, omega arith))))
        (λ q h. clash (cc)))

    -- what is within the limits reads back from its bytes
    pub graph_back : (g : Graph) → GraphWithin p g → file ≡ encode_graph g → graph file p ≡ read g (length file)
    unfolding graph
    graph_back g w h =
        let xs : List Node = g.nodes in
        let c : ℕ = 0 + length (encode_nodes xs) in
        let rest : List ℕ = listed encode_edge g.edges in
        let back : drop c file ≡ rest ++ [] = behind file 0 (encode_nodes xs) rest h ∙ sym (append-nil rest) in
        let e : ℕ = c + length rest in
        let len : e ≡ length file = omega (arith, ap length h, length-append (encode_nodes xs) rest) in
        ap (λ (r : Reading (List Node)). all_of file (onward r (with_edges file)))
        (nodes_back p file bytes xs 0 rest w.0 h)
        ∙ ap (λ (r : Read (List Edge)). all_of file (plainly r (λ es f. read (graph_of_lem xs es) f))) (edges_exact.back g.edges c [] w.1 back)
        ∙ ap (λ (t : Bool). pick t (read g e) broken) (eq-eqb e (length file) len)
        ∙ ap (read g) len

    -- exact in both directions
    pub graph_exact : (g : Graph) → (graph file p ≡ read g (length file)) ↔ (GraphWithin p g × (file ≡ encode_graph g))
    graph_exact g = ((λ h. let f = graph_form g (length file) h in (f.0, f.1)), (λ h. graph_back g h.0 h.1))

-- "no such rule", 6, "node", of a graph file: what is behind the nodes names no rule
pub graph_rule_missing : (file : List ℕ) (p : Protocol) (k : ℕ) → (graph file p ≡ no_rule k) ↔ RuleMissing p file 0 k
unfolding graph
graph_rule_missing file p k = (
  (λ h. (no_rule_exactly p file 0 k).0 (of_nodes (node_list p file 0) (all_rule p file (parts file p) k h))),
  (λ m. ap (λ (r : Reading (List Node)). all_of file (onward r (with_edges file))) ((no_rule_exactly p file 0 k).1 m)),
)
  where
    of_edges : (xs : List Node) (e : ℕ) (q : Read (List Edge)) → plainly q (λ es d. read (graph_of_lem xs es) d) ≡ no_rule k → read xs e ≡ no_rule k
    of_edges xs e (got es d) h = clash (cc)
    of_edges xs e fault h = clash (cc)

    of_nodes : (o : Reading (List Node)) → onward o (with_edges file) ≡ no_rule k → o ≡ no_rule k
    of_nodes (read xs e) h = of_edges xs e (edge_list file e) h
    of_nodes broken h = clash (cc)
    of_nodes (no_rule j) h = let i : j ≡ k = cc in ap no_rule i
