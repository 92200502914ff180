-- One premise more, one node more: what follows gives up its first edge, which goes into the table.
use Rattle.std.specs.Prelude.{ℕ, suc, ◌+◌, ◌*◌, ◌≤◌, ◌<◌, List, [], ◌∷◌, ◌++◌, Bool, cond, ◌≡◌, refl, length, get_or, set, drop}
use Rattle.std.proofs.Common.{append_assoc, append-nil, ap, ap₂, sym, ◌∙◌, subst, arith, length-append, length-set, drop_of_length-le, drop-cons, get_or-set_same, get_or-set_other}
use Rattle.std.specs.Prelude.{Option, Some, None}
use Rattle.std.proofs.lemmas.List.{length-map}
use Rattle.std.proofs.Math.ListN.{get_or-append}
use Rattle.std.proofs.Math.Seq.{get_or-append_seam}
use Rattle.lists.specs.Choice.{pick, by_order}
use Rattle.lists.specs.Tests.{by_bool}
use Rattle.lists.specs.Asks.{Promises₃}
use Rattle.lists.specs.Lists.{remove_by}
use Rattle.lists.specs.All.Laws.{all_inside, map_at}
use Rattle.rewriting.specs.Graph as graph
use Rattle.rewriting.specs.Graph.{Edge, Place}
use Rattle.rewriting.specs.Places.{Placed, placed}
use Rattle.rewriting.specs.Table.{Ruling, passed, refused}
use Rattle.rewriting.specs.Writer.{add_edge, add_node, edges_into, take_one, take_all, draw_from}
use Rattle.protocol.specs.Figures.{most_facts, premise_list, conclusion_list}
use Rattle.protocol.specs.Protocol.{Fact, Protocol, no_fact}
use Rattle.steps.specs.Nodes.{Node, no_node, NodeWithin, most_nodes}
use Rattle.steps.specs.Facts.{facts_of, is_linear}
use Rattle.steps.specs.Facts.Counts.{facts_few}
use Rattle.steps.specs.Runs.{protocol_facts, rewritten, rewrittens}
use Rattle.steps.specs.Table.Laws.{node_in}
use Rattle.steps.specs.Causes.Good.{RightNodes}
use Rattle.facts.specs.declared.nodes.FactId.{FactId}
use Rattle.facts.specs.Calls.{NodeOf, WholeFact}
use Rattle.facts.specs.declared.marks.KeptFact.{KeptFact}
use Rattle.facts.specs.Kept.{Keeps}
use Rattle.graph.specs.Graph.{place_of, edge_of, most_edges}
use Rattle.graph.specs.Uses.{count_table}
use Rattle.graph.specs.Table.{edge_fields, edge_at, no_edge, FieldsFor, EdgesIn}
use Rattle.graph.specs.Table.Reading.{edge_same}
use Rattle.writer.specs.Free.{Marked, entry_place, entry_placed, free_in}
use Rattle.writer.specs.Free.Laws.{FirstAt, NoneTo, first_is, taken_is}
use Rattle.writer.specs.Search.{is_same, Searching, AtNode, Entered}
use Rattle.writer.specs.Search.Laws.{whole_fact}
use Rattle.writer.specs.Sources.{EdgePut, edges_then, all_edges, premises_then, premises, from_premise}
use Rattle.writer.specs.Sources.{Feeding, AtPremise, Choosing, Chosen}

-- ── the table of edges with one more ──
-- four numbers that are stored
module _ (edges : List ℕ) (e a b c d : ℕ) (room : edge_fields * e + edge_fields ≤ length edges) where
  abbrev one : List ℕ
  one = set edges (4 * e + 0) a

  abbrev two : List ℕ
  two = set one (4 * e + 0 + 1) b

  abbrev three : List ℕ
  three = set two (4 * e + 2) c

  abbrev four : List ℕ
  four = set three (4 * e + 2 + 1) d

  pub long_one : length one ≡ length edges
  long_one = length-set edges (4 * e + 0) a

  pub long_two : length two ≡ length edges
  long_two = length-set one (4 * e + 0 + 1) b ∙ long_one

  pub long_three : length three ≡ length edges
  long_three = length-set two (4 * e + 2) c ∙ long_two

  pub four_put : EdgePut edges four e (edge_of (place_of a b) (place_of c d))
  four_put = record {
    here = ap₂ edge_of (ap₂ place_of first second) (ap₂ place_of third fourth);
    before = λ i l.
        get_or-set_other three (4 * e + 2 + 1) i d 0 (λ z. omega arith)
        ∙ get_or-set_other two (4 * e + 2) i c 0 (λ z. omega arith)
        ∙ get_or-set_other one (4 * e + 0 + 1) i b 0 (λ z. omega arith)
        ∙ get_or-set_other edges (4 * e + 0) i a 0 (λ z. omega arith);
    long = length-set three (4 * e + 2 + 1) d ∙ long_three;
  }
    where
      first : get_or four (4 * e + 0) 0 ≡ a
      first =
          get_or-set_other three (4 * e + 2 + 1) (4 * e + 0) d 0 (λ z. omega arith)
          ∙ get_or-set_other two (4 * e + 2) (4 * e + 0) c 0 (λ z. omega arith)
          ∙ get_or-set_other one (4 * e + 0 + 1) (4 * e + 0) b 0 (λ z. omega arith)
          ∙ get_or-set_same edges (4 * e + 0) a 0 (omega arith)

      second : get_or four (4 * e + 0 + 1) 0 ≡ b
      second =
          get_or-set_other three (4 * e + 2 + 1) (4 * e + 0 + 1) d 0 (λ z. omega arith)
          ∙ get_or-set_other two (4 * e + 2) (4 * e + 0 + 1) c 0 (λ z. omega arith)
          ∙ get_or-set_same one (4 * e + 0 + 1) b 0 (omega (arith, long_one))

      third : get_or four (4 * e + 2) 0 ≡ c
      third =
          get_or-set_other three (4 * e + 2 + 1) (4 * e + 2) d 0 (λ z. omega arith)
          ∙ get_or-set_same two (4 * e + 2) c 0 (omega (arith, long_two))

      fourth : get_or four (4 * e + 2 + 1) 0 ≡ d
      fourth = get_or-set_same three (4 * e + 2 + 1) d 0 (omega (arith, long_three))

pub put_as :
    {edges edges' : List ℕ} {e a b c d a' b' c' d' : ℕ} → a ≡ a' → b ≡ b' → c ≡ c' → d ≡ d' → EdgePut edges edges' e (edge_of (place_of a b) (place_of c d))
    → EdgePut edges edges' e (edge_of (place_of a' b') (place_of c' d'))
put_as {edges} {edges'} {e} ha hb hc hd put =
    subst (EdgePut edges edges' e) (ap₂ edge_of (ap₂ place_of ha hb) (ap₂ place_of hc hd)) put

pub edges_more :
    {edges edges' : List ℕ} {e : ℕ} {es : List Edge} {edge : Edge} → EdgesIn edges e es → e < most_edges → FieldsFor edges (e + 1) → EdgePut edges edges' e edge
    → EdgesIn edges' (e + 1) (es ++ (edge ∷ []))
edges_more {edges} {edges'} {e} {es} {edge} h l room put = record {
  count = omega (arith, length-append es (edge ∷ []), h.count);
  few = omega arith;
  each = λ j m.
      by_order j e
      (λ a.
      get_or-append es (edge ∷ []) no_edge j (omega (arith, h.count)) ∙ h.each j a
      ∙ edge_same edges edges' j j (λ k b. sym (put.before (4 * j + k) (omega arith))))
      (λ a.
      let n : length es ≡ j = omega (arith, h.count) in
      ap (λ (i : ℕ). get_or (es ++ (edge ∷ [])) i no_edge) (sym n) ∙ get_or-append_seam es edge [] no_edge ∙ sym put.here ∙ ap (edge_at edges') (sym a))
      (λ a. absurd (omega arith));
  long = omega (arith, put.long, room);
}

-- ── edges in front ──
then_then : (es fs : List Edge) (r : Ruling (List Edge)) → edges_then es (edges_then fs r) ≡ edges_then (es ++ fs) r
then_then es fs (passed gs) = ap {B = Ruling (List Edge)} passed (sym (append_assoc es fs gs))
then_then es fs (refused n k) = refl

then_none : (k : ℕ) (r : Ruling (List Edge)) → add_node k (Some []) r ≡ r
then_none k (passed fs) = refl
then_none k (refused n j) = refl

then_edge :
    (k : ℕ) (a : Place) (t : Placed Fact) (o : Option (List Edge)) (r : Ruling (List Edge))
    → add_node k (add_edge a (Some t) o) r ≡ edges_then (edge_of t.place a ∷ []) (add_node k o r)
then_edge k a t None r = refl
then_edge k a t (Some es) (passed fs) = refl
then_edge k a t (Some es) (refused n j) = refl

module _ {p s nodes free edges : List ℕ} {k i e : ℕ} {P : Protocol} {xs : List Node} where
  -- ── a premise ──
  module _ (h : AtPremise p s nodes free edges k i e P xs) where
    abbrev target : FactId
    target = record { node = k; list = premise_list; number = i }

    abbrev fact : Fact
    fact = get_or (premises P xs k) i no_fact

    abbrev list : List (Placed Fact)
    list = free_in P xs free (most_facts * k)

    abbrev behind : List Fact
    behind = drop (suc i) (premises P xs k)

    pub premise_there : WholeFact p s nodes target P (get_or xs k no_node)
    premise_there = whole_fact h.feeding.right target h.feeding.inside h.listed

    few_premises : length (premises P xs k) ≤ most_facts
    few_premises =
        facts_few P h.feeding.right.stand.prepared.body.within (get_or xs k no_node)
        (all_inside (NodeWithin P) no_node xs h.feeding.right.stand.within k h.feeding.inside) premise_list

    pub premise_bounds : (k < most_nodes) × (i < most_facts) × (e < most_edges) × FieldsFor edges (e + 1)
    premise_bounds =
        let a : k < most_nodes = omega (arith, h.feeding.inside, h.feeding.right.stand.few) in
        let b : i < most_facts = omega (arith, few_premises, h.listed) in
        (a, b, omega (arith, h.feeding.few), omega (arith, b, h.feeding.few, h.feeding.inside, h.feeding.reached.room))

    pub premise_search : {work : List ℕ} {kept : KeptFact} → Keeps work kept fact → Searching p s nodes free target work kept P xs
    premise_search m = record {
      right = h.feeding.right;
      inside = h.feeding.inside;
      listed = h.listed;
      marked = h.feeding.marked;
      keeps = m;
    }

    opened : from_premise P xs free k i ≡ premises_then P xs list k i (fact ∷ behind)
    opened = ap (premises_then P xs list k i) (drop-cons (premises P xs k) i no_fact h.listed)

    -- it has no source
    pub premise_unfed : NoneTo (entry_placed P xs) (is_same P xs target) free (most_facts * k) → all_edges P xs ≡ refused 14 (suc k)
    premise_unfed nowhere =
        h.feeding.reached.drawn
        ∙ ap (edges_then h.feeding.reached.so_far)
        (opened
        ∙ ap (λ (o : Option (Placed Fact)). add_node (suc k) (add_edge (place_of (suc k) (suc i)) o
        (edges_into (protocol_facts P) (suc k) (suc (suc i)) (take_one (protocol_facts P) fact list) behind))
        (draw_from (protocol_facts P) (suc (suc k)) (take_all (protocol_facts P) (fact ∷ behind) list ++ placed (suc k) 1
        (facts_of P conclusion_list (get_or xs k no_node)))
        (drop (suc k) (rewrittens P xs)))) nowhere)

    -- it has one
    module _ {v : ℕ} (first : FirstAt (entry_placed P xs) (is_same P xs target) free v (most_facts * k)) where
      abbrev edge : Edge
      edge = edge_of (entry_place v) (place_of (suc k) (suc i))

      pub source_bounds : v < count_table
      source_bounds = omega (arith, first.inside, premise_bounds.0)

      pub source_inside : v < length free
      source_inside = omega (arith, first.inside, h.feeding.inside, h.feeding.marked.long)

      module _ {free' : List ℕ} (taken : free' ≡ pick (is_linear P fact) (set free v 0) free) where
        left : free_in P xs free' (most_facts * k) ≡ take_one (protocol_facts P) fact list
        left =
            ap (λ (l : List ℕ). free_in P xs l (most_facts * k)) taken
            ∙ by_bool (is_linear P fact)
            (λ b.
            ap (λ (c : Bool). free_in P xs (pick c (set free v 0) free) (most_facts * k)) b
            ∙ taken_is (entry_placed P xs) (is_same P xs target) free source_inside first
            ∙ sym (ap (λ (c : Bool). cond c (remove_by (is_same P xs target) list) list) b))
            (λ b.
            ap (λ (c : Bool). free_in P xs (pick c (set free v 0) free) (most_facts * k)) b
            ∙ sym (ap (λ (c : Bool). cond c (remove_by (is_same P xs target) list) list) b))

        less_marked : Marked (set free v 0) (most_facts * k) P xs
        less_marked = record {
          long = omega (arith, length-set free v 0, h.feeding.marked.long);
          each = λ w m q.
              by_order w v
              (λ a. h.feeding.marked.each w m (sym (get_or-set_other free v w 0 0 (λ z. omega arith)) ∙ q))
              (λ a.
              absurd (let z : suc m ≡ 0 = sym q ∙ ap (λ (j : ℕ). get_or (set free v 0) j 0) a ∙ get_or-set_same free v 0 0 source_inside in omega arith))
              (λ a. h.feeding.marked.each w m (sym (get_or-set_other free v w 0 0 (λ z. omega arith)) ∙ q));
          empty = λ w o. get_or-set_other free v w 0 0 (λ z. absurd (o (omega (arith, first.inside)))) ∙ h.feeding.marked.empty w o;
        }

        still_marked : Marked free' (most_facts * k) P xs
        still_marked =
            subst (λ (l : List ℕ). Marked l (most_facts * k) P xs) (sym taken)
            (by_bool (is_linear P fact)
            (λ b. subst (λ (c : Bool). Marked (pick c (set free v 0) free) (most_facts * k) P xs) (sym b) less_marked)
            (λ b. subst (λ (c : Bool). Marked (pick c (set free v 0) free) (most_facts * k) P xs) (sym b) h.feeding.marked))

        one_edge : from_premise P xs free k i ≡ edges_then (edge ∷ []) (from_premise P xs free' k (suc i))
        one_edge =
            opened
            ∙ ap (λ (o : Option (Placed Fact)). add_node (suc k) (add_edge (place_of (suc k) (suc i)) o
            (edges_into (protocol_facts P) (suc k) (suc (suc i)) (take_one (protocol_facts P) fact list) behind))
            (draw_from (protocol_facts P) (suc (suc k)) (take_all (protocol_facts P) (fact ∷ behind) list ++ placed (suc k) 1
            (facts_of P conclusion_list (get_or xs k no_node)))
            (drop (suc k) (rewrittens P xs)))) (first_is (entry_placed P xs) (is_same P xs target) free first)
            ∙ then_edge (suc k) (place_of (suc k) (suc i)) (entry_placed P xs v) (edges_into (protocol_facts P) (suc k) (suc (suc i))
            (take_one (protocol_facts P) fact list) behind) _
            ∙ ap (λ (l : List (Placed Fact)). edges_then (edge ∷ []) (premises_then P xs l k (suc i) behind)) (sym left)

        pub premise_fed : {edges' : List ℕ} → EdgePut edges edges' e edge → Feeding p s nodes free' edges' k (i + 1) (e + 1) P xs
        premise_fed {edges'} put =
            let one : suc i ≡ i + 1 = omega arith in
            record {
              right = h.feeding.right;
              inside = h.feeding.inside;
              marked = still_marked;
              within = omega (arith, h.listed);
              few = omega (arith, h.feeding.few);
              reached = record {
                so_far = h.feeding.reached.so_far ++ (edge ∷ []);
                stand = edges_more h.feeding.reached.stand premise_bounds.2 premise_bounds.3 put;
                room = omega (arith, put.long, h.feeding.reached.room);
                drawn = h.feeding.reached.drawn ∙ ap (edges_then h.feeding.reached.so_far) one_edge
                    ∙ then_then h.feeding.reached.so_far (edge ∷ []) (from_premise P xs free' k (suc i))
                    ∙ ap (λ (j : ℕ). edges_then (h.feeding.reached.so_far ++ (edge ∷ [])) (from_premise P xs free' k j)) one;
              };
            }

  -- with the count of edges in another form
  pub feeding_as : {m : ℕ} → Feeding p s nodes free edges k i e P xs → e ≡ m → Feeding p s nodes free edges k i m P xs
  feeding_as h q = subst (λ (m : ℕ). Feeding p s nodes free edges k i m P xs) q h

  -- ── by the count that code has ──
  module _ (h : Feeding p s nodes free edges k i e P xs) (count : ℕ)
      (counted : Promises₃ (NodeOf p nodes k) (λ (t : List ℕ) (Q : Protocol) (x : Node). count ≡ length (facts_of Q premise_list x))) where
    pub premise_count : count ≡ length (premises P xs k)
    premise_count = counted s P (get_or xs k no_node) (node_in h.right.stand k h.inside)

    pub at_premise : i < count → AtPremise p s nodes free edges k i e P xs
    at_premise l = record { feeding = h; listed = omega (arith, premise_count) }

    -- and none is left
    pub node_done : i ≡ count → Feeding p s nodes free edges k (length (premises P xs k)) e P xs
    node_done q =
        let z : i ≡ length (premises P xs k) = omega (arith, premise_count) in
        subst (λ (j : ℕ). Feeding p s nodes free edges k j e P xs) z h

    pub edges_small : e < most_edges + most_facts
    edges_small =
        let a = facts_few P h.right.stand.prepared.body.within (get_or xs k no_node)
        (all_inside (NodeWithin P) no_node xs h.right.stand.within k h.inside) premise_list in
        omega (arith, h.few, h.within, a, h.inside, h.right.stand.few)

-- ── a node ──
module _ {p s nodes free edges : List ℕ} {k e : ℕ} {P : Protocol} {xs : List Node} where
  -- its premises come first
  pub node_begun : Choosing p s nodes free edges k e P xs → k < length xs → Feeding p s nodes free edges k 0 e P xs
  node_begun h l = record {
    right = h.right;
    inside = l;
    marked = h.marked;
    within = omega arith;
    few = omega (arith, h.few);
    reached = record {
      so_far = h.reached.so_far;
      stand = h.reached.stand;
      room = h.reached.room;
      drawn = h.reached.drawn ∙ ap (λ (ys : List (graph.Node Fact)). edges_then h.reached.so_far
          (draw_from (protocol_facts P) (suc k) (free_in P xs free (most_facts * k)) ys))
          (drop-cons (rewrittens P xs) k (rewritten P no_node) (omega (arith, length-map xs (rewritten P)))
          ∙ ap (λ (y : graph.Node Fact). y ∷ drop (suc k) (rewrittens P xs)) (map_at (rewritten P) xs k no_node (rewritten P no_node) l));
    };
  }

  pub node_entered : Feeding p s nodes free edges k (length (premises P xs k)) e P xs → AtNode p s nodes k free P xs
  node_entered h = record { right = h.right; inside = h.inside; marked = h.marked }

  -- then its conclusions are free
  pub node_left : Feeding p s nodes free edges k (length (premises P xs k)) e P xs → {free' : List ℕ} → Entered k free free' P xs → Choosing p s nodes free'
      edges (k + 1) e P xs
  node_left f {free'} n =
      let few = facts_few P f.right.stand.prepared.body.within (get_or xs k no_node)
      (all_inside (NodeWithin P) no_node xs f.right.stand.within k f.inside) premise_list in
      let None : drop (length (premises P xs k)) (premises P xs k) ≡ [] = drop_of_length-le (premises P xs k) {i = length (premises P xs k)} (omega arith) in
      let one : suc k ≡ k + 1 = omega arith in
      record {
        right = f.right;
        within = omega (arith, f.inside);
        marked = n.marked;
        few = omega (arith, f.few, few);
        reached = record {
          so_far = f.reached.so_far;
          stand = f.reached.stand;
          room = f.reached.room;
          drawn = f.reached.drawn ∙ ap (edges_then f.reached.so_far)
              (premises_done (free_in P xs free (most_facts * k)) (length (premises P xs k)) (drop (length (premises P xs k)) (premises P xs k)) None
              ∙ ap (λ (l : List (Placed Fact)). draw_from (protocol_facts P) (suc (suc k)) l (drop (suc k) (rewrittens P xs))) (sym n.more)
              ∙ ap (λ (j : ℕ). draw_from (protocol_facts P) (suc j) (free_in P xs free' (most_facts * (k + 1))) (drop j (rewrittens P xs))) one);
        };
      }
    where
      premises_done : (l : List (Placed Fact)) (i : ℕ) (ps : List Fact) → ps ≡ []
          → premises_then P xs l k i ps ≡ draw_from (protocol_facts P) (suc (suc k)) (l ++ placed (suc k) 1 (facts_of P conclusion_list (get_or xs k no_node)))
          (drop (suc k) (rewrittens P xs))
      premises_done l i ps q = ap (premises_then P xs l k i) q ∙ then_none (suc k) _

  -- ── all nodes ──
  pub all_chosen : Choosing p s nodes free edges k e P xs → k ≡ length xs → Chosen edges e P xs
  all_chosen h q =
      let None : drop k (rewrittens P xs) ≡ [] = drop_of_length-le (rewrittens P xs) {i = k} (omega (arith, length-map xs (rewritten P))) in
      record {
        is = h.reached.so_far;
        drawn = h.reached.drawn
            ∙ ap (λ (ys : List (graph.Node Fact)). edges_then h.reached.so_far (draw_from (protocol_facts P) (suc k) (free_in P xs free (most_facts * k)) ys))
            None
            ∙ ap {B = Ruling (List Edge)} passed (append-nil h.reached.so_far);
        stand = h.reached.stand;
      }

module _ {p s nodes : List ℕ} {n : ℕ} {P : Protocol} {xs : List Node} (r : RightNodes p s nodes n P xs) where
  pub none_chosen : {free edges : List ℕ} → most_facts * n ≤ length free → ((i : ℕ) → get_or free i 0 ≡ 0) → FieldsFor edges (most_facts * n) → Choosing p s nodes
      free edges
      0 0 P xs
  none_chosen long empty table = record {
    right = subst (λ (k : ℕ). RightNodes p s nodes k P xs) (sym r.stand.count) r;
    within = omega arith;
    marked = record {
      long = omega (arith, r.stand.count);
      each = λ v m q. absurd (let z : suc m ≡ 0 = sym q ∙ empty v in omega arith);
      empty = λ v o. empty
          v;
    };
    few = omega arith;
    reached = record {
      so_far = [];
      stand = record { count = refl; few = omega arith; each = λ j l. absurd (omega arith); long = omega arith };
      room = omega (arith, r.stand.count, table);
      drawn = whole (all_edges P xs);
    };
  }
    where
      whole : (q : Ruling (List Edge)) → q ≡ edges_then [] q
      whole (passed es) = refl
      whole (refused a b) = refl
