-- What code answers of a graph file that it reads, and what it leaves in the tables.
use Rattle.std.specs.Prelude.{Option, Some, None, Result, Ok, Err, ℕ, ◌<◌, List, Bool, ◌≡◌, refl, length, get_or}
use Rattle.std.proofs.Math.Path.{ap}
use Rattle.std.proofs.Common.{◌∙◌, subst, eq-eqb, ne_eqb}
use Rattle.lists.specs.Choice.{pick}
use Rattle.number.specs.Reading.{Read, got}
use Rattle.rewriting.specs.Graph.{Edge}
use Rattle.protocol.specs.Protocol.{Protocol}
use Rattle.steps.specs.Nodes.{Node, no_node, Reading, read, broken, no_rule, onward, plainly, all_of, node_list}
use Rattle.steps.specs.Nodes.Code.{Told}
use Rattle.steps.specs.Table.{RowsFor, Row}
use Rattle.steps.specs.declared.nodes.NodesFault.{NodesFault}
use Rattle.steps.specs.declared.nodes.NodesFault.TheVariants as fault
use Rattle.graph.specs.Graph.{Graph, graph_of_lem, edge_list, with_edges, graph}
use Rattle.graph.specs.Table.{EdgesIn}
use Rattle.graph.specs.Table.Reading.{EdgesRead}

-- ── behind the nodes, which end at a place: the edges, and nothing behind them ──
pub record EdgesBehind (s : List ℕ) (at : ℕ) (edges : List ℕ) (m : ℕ) : Type 0 where
  pub items : List Edge
  pub there : edge_list s at ≡ got items (length s)
  pub stand : EdgesIn edges m items

abbrev pub BehindNodes : List ℕ → ℕ → List ℕ → Option ℕ → Type 0
BehindNodes s at edges (Some m) = EdgesBehind s at edges m
BehindNodes s at edges None = (xs : List Node) → all_of s (with_edges s xs at) ≡ broken

-- ── the whole file ──
pub record GraphIs (P : Protocol) (p s nodes edges : List ℕ) (n m : ℕ) : Type 0 where
  pub is : Graph
  pub there : graph s P ≡ read is (length s)
  pub count : length is.nodes ≡ n
  pub long : RowsFor nodes n
  pub rows : (j : ℕ) → j < n → Row p s nodes j (get_or is.nodes j no_node)
  pub edges_in : EdgesIn edges m is.edges

-- how many nodes and edges, or a layout fault, or the node that has no such rule
abbrev pub GraphTold : Protocol → List ℕ → List ℕ → List ℕ → List ℕ → Result (ℕ × ℕ) NodesFault → Type 0
GraphTold P p s nodes edges (Ok (n, m)) = GraphIs P p s nodes edges n m
GraphTold P p s nodes edges (Err fault.Broken) = graph s P ≡ broken
GraphTold P p s nodes edges (Err (fault.NoRule k)) = graph s P ≡ no_rule k

-- ── laws ──
module _ (s : List ℕ) (at : ℕ) (edges : List ℕ) (r : Option (ℕ × ℕ)) (edges_told : EdgesRead s at edges r) where
  as_read : {q : Option (ℕ × ℕ)} → r ≡ q → EdgesRead s at edges q
  as_read h = subst (EdgesRead s at edges) h edges_told

  pub behind_end : {m e : ℕ} → r ≡ Some (m, e) → e ≡ length s → EdgesBehind s at edges m
  behind_end h q =
      let t = as_read h in
      record { items = t.items; there = t.there ∙ ap (got t.items) q; stand = t.stand }

  pub behind_leftover : {m e : ℕ} → r ≡ Some (m, e) → (e ≡ length s → ⊥) → (xs : List Node) → all_of s (with_edges s xs at) ≡ broken
  behind_leftover {m} {e} h q xs =
      let t = as_read h in
      ap (λ (o : Read (List Edge)). all_of s (plainly o (λ es f. read (graph_of_lem xs es) f))) t.there
      ∙ ap (λ (b : Bool). pick b (read (graph_of_lem xs t.items) e) broken) (ne_eqb e (length s) q)

  pub behind_fault : r ≡ None → (xs : List Node) → all_of s (with_edges s xs at) ≡ broken
  behind_fault h xs = ap (λ (o : Read (List Edge)). all_of s (plainly o (λ es f. read (graph_of_lem xs es) f))) (as_read h)

module _ (P : Protocol) (p s nodes : List ℕ) (r : Result (ℕ × ℕ) NodesFault) (nodes-told : Told (node_list P s 0) p s nodes r) where
  as_told : {q : Result (ℕ × ℕ) NodesFault} → r ≡ q → Told (node_list P s 0) p s nodes q
  as_told h = subst (Told (node_list P s 0) p s nodes) h nodes-told

  pub graph_fault : (edges : List ℕ) (f : NodesFault) → r ≡ Err f → GraphTold P p s nodes edges (Err f)
  unfolding graph
  graph_fault edges fault.Broken h = ap (λ (q : Reading (List Node)). all_of s (onward q (with_edges s))) (as_told h)
  graph_fault edges (fault.NoRule k) h = ap (λ (q : Reading (List Node)). all_of s (onward q (with_edges s))) (as_told h)

  module _ {n e : ℕ} (h : r ≡ Ok (n, e)) where
    pub graph_told : (edges : List ℕ) {m : ℕ} → EdgesBehind s e edges m → GraphIs P p s nodes edges n m
    unfolding graph
    graph_told edges b =
        let t = as_told h in
        record {
          is = graph_of_lem t.items b.items;
          there =
              ap (λ (q : Reading (List Node)). all_of s (onward q (with_edges s))) t.there
              ∙ ap (λ (o : Read (List Edge)). all_of s (plainly o (λ es f. read (graph_of_lem t.items es) f))) b.there
              ∙ ap (λ (c : Bool). pick c (read (graph_of_lem t.items b.items) (length s)) broken) (eq-eqb (length s) (length s) refl);
          count = t.count;
          long = t.long;
          rows = t.rows;
          edges_in = b.stand;
        }

    pub edges_broken : ((xs : List Node) → all_of s (with_edges s xs e) ≡ broken) → graph s P ≡ broken
    unfolding graph
    edges_broken b =
        let t = as_told h in
        ap (λ (q : Reading (List Node)). all_of s (onward q (with_edges s))) t.there ∙ b t.items
