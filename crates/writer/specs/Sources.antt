-- A source for each premise, nodes in order and premises in order: how far the choosing has come. The edges so far stand in their table, and
-- the writer's answer is these edges and what follows.
use Rattle.std.specs.Prelude.{Option, Some, None, Result, Ok, Err, ℕ, suc, ◌+◌, ◌*◌, ◌≤◌, ◌<◌, List, [], ◌++◌, Bool, true, false, ◌≡◌, length, get_or, drop}
use Rattle.rewriting.specs.Graph.{Edge}
use Rattle.rewriting.specs.Places.{Placed, placed}
use Rattle.rewriting.specs.Table.{Ruling, passed, refused, and_then}
use Rattle.rewriting.specs.Writer.{add_node, edges_into, take_all, draw_from}
use Rattle.protocol.specs.Figures.{most_facts, premise_list, conclusion_list}
use Rattle.protocol.specs.Protocol.{Fact, Protocol}
use Rattle.steps.specs.Nodes.{Node, no_node}
use Rattle.steps.specs.Facts.{facts_of}
use Rattle.steps.specs.Runs.{protocol_facts, rewrittens}
use Rattle.steps.specs.Causes.Good.{RightNodes}
use Rattle.graph.specs.Table.{edge_fields, edge_at, FieldsFor, EdgesIn}
use Rattle.writer.specs.Free.{Marked, free_in}
-- one premise more, one node more
pub mod Laws

-- ── one edge more in the table ──
pub record EdgePut (edges edges' : List ℕ) (e : ℕ) (edge : Edge) : Type 0 where
  pub here : edge_at edges' e ≡ edge
  pub before : (i : ℕ) → i < edge_fields * e → get_or edges' i 0 ≡ get_or edges i 0
  pub long : length edges' ≡ length edges

-- ── what follows ──
abbrev pub edges_then : List Edge → Ruling (List Edge) → Ruling (List Edge)
edges_then es r = and_then r (λ fs. passed (es ++ fs))

module _ (P : Protocol) (xs : List Node) where
  -- the edges of all nodes, or 14
  abbrev pub all_edges : Ruling (List Edge)
  all_edges = draw_from (protocol_facts P) 1 [] (rewrittens P xs)

  -- the premises of node k, from 0, and the nodes behind it, with these conclusions free
  abbrev pub premises_then : List (Placed Fact) → ℕ → ℕ → List Fact → Ruling (List Edge)
  premises_then free k i ps =
      add_node (suc k) (edges_into (protocol_facts P) (suc k) (suc i) free ps)
      (draw_from (protocol_facts P) (suc (suc k)) (take_all (protocol_facts P) ps free ++ placed (suc k) 1 (facts_of P conclusion_list (get_or xs k no_node)))
      (drop (suc k) (rewrittens P xs)))

  abbrev pub premises : ℕ → List Fact
  premises k = facts_of P premise_list (get_or xs k no_node)

  -- from premise i of node k on; from node k on
  abbrev pub from_premise : List ℕ → ℕ → ℕ → Ruling (List Edge)
  from_premise free k i = premises_then (free_in P xs free (most_facts * k)) k i (drop i (premises k))

  abbrev pub from_node : List ℕ → ℕ → Ruling (List Edge)
  from_node free k = draw_from (protocol_facts P) (suc k) (free_in P xs free (most_facts * k)) (drop k (rewrittens P xs))

-- ── how far it has come ──
pub record Reached (edges : List ℕ) (e : ℕ) (rest : Ruling (List Edge)) (P : Protocol) (xs : List Node) : Type 0 where
  pub so_far : List Edge
  pub stand : EdgesIn edges e so_far
  pub room : FieldsFor edges (most_facts * length xs)
  pub drawn : all_edges P xs ≡ edges_then so_far rest

-- the nodes before k, and the premises before i of node k, have their edge
pub record Feeding (p s nodes free edges : List ℕ) (k i e : ℕ) (P : Protocol) (xs : List Node) : Type 0 where
  pub right : RightNodes p s nodes (length xs) P xs
  pub inside : k < length xs
  pub marked : Marked free (most_facts * k) P xs
  pub within : i ≤ length (premises P xs k)
  pub few : e ≤ most_facts * k + i
  pub reached : Reached edges e (from_premise P xs free k i) P xs

-- and there is a premise i
pub record AtPremise (p s nodes free edges : List ℕ) (k i e : ℕ) (P : Protocol) (xs : List Node) : Type 0 where
  pub feeding : Feeding p s nodes free edges k i e P xs
  pub listed : i < length (premises P xs k)

-- the nodes before k have their edges
pub record Choosing (p s nodes free edges : List ℕ) (k e : ℕ) (P : Protocol) (xs : List Node) : Type 0 where
  pub right : RightNodes p s nodes (length xs) P xs
  pub within : k ≤ length xs
  pub marked : Marked free (most_facts * k) P xs
  pub few : e ≤ most_facts * k
  pub reached : Reached edges e (from_node P xs free k) P xs

-- ── what code answers ──
-- of a premise: it has its edge, or the whole has no graph
pub record PremiseFed (p s nodes free edges : List ℕ) (k i e : ℕ) (r : Bool) (P : Protocol) (xs : List Node) : Type 0 where
  pub fed : r ≡ true → Feeding p s nodes free edges k (i + 1) (e + 1) P xs
  pub unfed : r ≡ false → all_edges P xs ≡ refused 14 (suc k)

-- of a node: each premise has its edge, or one has none
pub record NodeFed (p s nodes free edges : List ℕ) (k : ℕ) (r : Option ℕ) (P : Protocol) (xs : List Node) : Type 0 where
  pub fed : (e : ℕ) → r ≡ Some e → Feeding p s nodes free edges k (length (premises P xs k)) e P xs
  pub unfed : r ≡ None → all_edges P xs ≡ refused 14 (suc k)

-- of all nodes: the edges, which stand in their table; or the first node that has a premise without a source
pub record Chosen (edges : List ℕ) (m : ℕ) (P : Protocol) (xs : List Node) : Type 0 where
  pub is : List Edge
  pub drawn : all_edges P xs ≡ passed is
  pub stand : EdgesIn edges m is

pub record AllFed (edges : List ℕ) (r : Result ℕ ℕ) (P : Protocol) (xs : List Node) : Type 0 where
  pub fed : (m : ℕ) → r ≡ Ok m → Chosen edges m P xs
  pub unfed : (k : ℕ) → r ≡ Err k → all_edges P xs ≡ refused 14 k
