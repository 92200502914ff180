-- The loops that look for a source and that enter conclusions, turn by turn.
use Rattle.std.specs.Prelude.{ℕ, suc, zero, ◌+◌, ◌-◌, ◌*◌, ◌/◌, ◌%◌, ◌≤◌, ◌<◌, List, [], ◌∷◌, ◌++◌, Bool, true, false, ◌≡◌, refl, length, get_or, set, take}
use Rattle.std.proofs.Common.{append_assoc, append-nil, ap, ap₂, sym, ◌∙◌, subst, subst₂, arith, length-set, get_or-set_same, get_or-set_other, take-suc, take_all, length-take-le}
use Rattle.lists.specs.Choice.{by_order}
use Rattle.lists.specs.Scan.{Next}
use Rattle.lists.specs.Asks.{Promises₃}
use Rattle.lists.specs.All.Laws.{all_inside}
use Rattle.rewriting.specs.Places.{Placed, placed}
use Rattle.rewriting.specs.Places.Laws.{placed_behind}
use Rattle.protocol.specs.Figures.{most_facts, conclusion_list}
use Rattle.protocol.specs.Protocol.{Fact, Protocol, no_fact}
use Rattle.protocol.specs.Protocol.Limits.{Within}
use Rattle.steps.specs.Nodes.{Node, no_node, NodeWithin, most_nodes}
use Rattle.steps.specs.Facts.{facts_of, same_fact}
use Rattle.steps.specs.Facts.Counts.{facts_few}
use Rattle.steps.specs.Facts.Formed.{by_equations}
use Rattle.steps.specs.Table.Laws.{node_in}
use Rattle.steps.specs.Values.{NodeRight}
use Rattle.steps.specs.Causes.Good.{RightNodes}
use Rattle.facts.specs.declared.nodes.FactId.{FactId}
use Rattle.facts.specs.Calls.{NodeOf, fact_at, WholeFact}
use Rattle.facts.specs.declared.marks.KeptFact.{KeptFact}
use Rattle.facts.specs.Kept.{SameAs, keeps_on}
use Rattle.facts.specs.Marks.{mark_of, mark_limit, marks_differ, mark_below}
use Rattle.facts.specs.Calls.Meaning.{fact_formed}
use Rattle.graph.specs.Graph.{place_of}
use Rattle.writer.specs.Free.{EntryIs, Marked, entry_id, entry_fact, entry_placed, free_in}
use Rattle.writer.specs.Free.Laws.{FirstAt, NoneTo, none_empty, none_differs, free_more, free_empty}
use Rattle.std.specs.Prelude.{Option, Some, None, unwrap_or}
use Rattle.writer.specs.Search.{fact_in, is_same, Searching, NextMarked, Found, AtNode, Entered}

-- ── a fact of right nodes ──
pub whole_fact :
    {p s nodes : List ℕ} {P : Protocol} {xs : List Node} → RightNodes p s nodes (length xs) P xs → (a : FactId) → a.node < length xs
    → a.number < length (facts_of P a.list (get_or xs a.node no_node)) → WholeFact p s nodes a P (get_or xs a.node no_node)
whole_fact {P = P} {xs} r a l m = record {
  node = node_in r.stand a.node l;
  right = all_inside (NodeRight P) no_node xs r.right a.node l;
  listed = m;
  has = tt;
}

-- its mark leaves room for one more
pub mark_room :
    {p s nodes : List ℕ} {a : FactId} {P : Protocol} {x : Node} → WholeFact p s nodes a P x → {m : ℕ} → m ≡ mark_of (fact_at P a.list a.number x)
    → m < mark_limit
mark_room {P = P} f e = omega (arith, e, mark_below P f.node.prepared.body.within _ (fact_formed f))

-- ── looking for a source ──
-- an answer of next_marked: the entry has the mark
pub marked_next :
    (free : List ℕ) (wanted from end : ℕ) (r : Option ℕ) → NextMarked free wanted from end r → (v : ℕ) → r ≡ Some v
    → (v < end) × (get_or free v 0 ≡ wanted)
marked_next free wanted from end r n v e = let (next, inside) = rw e at n in (inside, next.here inside)

module _ {p s nodes free : List ℕ} {a : FactId} {work : List ℕ} {kept : KeptFact} {P : Protocol} {xs : List Node}
    (h : Searching p s nodes free a work kept P xs) where
  abbrev mark : ℕ
  mark = kept.mark

  abbrev fit : Within P
  fit = h.right.stand.prepared.body.within

  abbrev Nowhere : ℕ → Type 0
  Nowhere v = NoneTo (entry_placed P xs) (is_same P xs a) free v

  next : (v : ℕ) → Nowhere (suc v) → Nowhere (v + 1)
  next v n = let e : suc v ≡ v + 1 = omega arith in subst Nowhere e n

  pub searched : WholeFact p s nodes a P (get_or xs a.node no_node)
  searched = whole_fact h.right a h.inside h.listed

  pub search_end : most_facts * a.node ≤ most_facts * most_nodes
  search_end = omega (arith, h.inside, h.right.stand.few)

  -- an entry with another mark
  pub pass_over : (v : ℕ) → (get_or free v 0 ≡ mark + 1 → ⊥) → Nowhere v → Nowhere (v + 1)
  pass_over v n none = next v (go (get_or free v 0) refl)
    where
      go : (m : ℕ) → get_or free v 0 ≡ m → Nowhere (suc v)
      go zero e = none_empty (entry_placed P xs) (is_same P xs a) free v e none
      go (suc m) e =
          let i = h.marked.each v m e in
          let other = fact_formed (whole_fact h.right (entry_id v) i.node i.listed) in
          none_differs (entry_placed P xs) (is_same P xs a) free v
          (sym (by_equations P fit _ _ (fact_formed searched) other false
          (marks_differ P fit (fact_in P xs a) (entry_fact P xs v) (fact_formed searched) other
          (λ same. n (let d : mark ≡ m = h.keeps.mark_is ∙ same ∙ sym i.mark in omega (arith, e)))))) none

  -- up to the next one with its mark
  pub pass_to : (v r end : ℕ) → Next free (mark + 1) v end r → Nowhere v → Nowhere r
  pass_to v r end n none = let e : (r - v) + v ≡ r = omega (arith, n.later) in subst Nowhere e (go (r - v) (omega (arith, n.later)))
    where
      go : (k : ℕ) → k + v ≤ r → Nowhere (k + v)
      go zero l = let e : v ≡ 0 + v = omega arith in subst Nowhere e none
      go (suc k) l = let e : k + v + 1 ≡ suc k + v = omega arith in subst Nowhere e (pass_over (k + v) (n.others (k + v) (omega arith) (omega arith))
          (go k (omega arith)))

  pub pass_on : (v end : ℕ) (r : Option ℕ) → NextMarked free (mark + 1) v end r → Nowhere v → Nowhere (unwrap_or r end)
  pass_on v end (Some r) n = pass_to v r end n.0
  pass_on v end None n = pass_to v end end n

  module _ (v : ℕ) (agree : get_or free v 0 ≡ mark + 1) where
    marked_entry : get_or free v 0 ≡ suc mark
    marked_entry = omega (arith, agree)

    -- its fact is there
    pub fact_there : (x : FactId) → x ≡ entry_id v → WholeFact p s nodes x P (get_or xs x.node no_node)
    fact_there x e =
        let i = h.marked.each v mark marked_entry in
        subst (λ (y : FactId). WholeFact p s nodes y P (get_or xs y.node no_node)) (sym e) (whole_fact h.right (entry_id v) i.node i.listed)

    module _ (x : FactId) (is : x ≡ entry_id v) (b : Bool) (work' : List ℕ) (stays : take kept.end work' ≡ take kept.end work)
        (compared : SameAs work' kept P (fact_at P x.list x.number (get_or xs x.node no_node)) b) where
      told : b ≡ same_fact (fact_in P xs a) (fact_at P x.list x.number (get_or xs x.node no_node))
      told =
          by_equations P fit _ _ (fact_formed searched) (fact_formed (fact_there x is)) b
          (compared (fact_in P xs a) (fact_formed searched) (keeps_on h.keeps stays))

      same_entry : b ≡ is_same P xs a (entry_placed P xs v)
      same_entry = told ∙ ap (λ (y : FactId). same_fact (fact_in P xs a) (fact_at P y.list y.number (get_or xs y.node no_node))) is

      pub other_fact : b ≡ false → Nowhere v → Nowhere (v + 1)
      other_fact f none = next v (none_differs (entry_placed P xs) (is_same P xs a) free v (sym same_entry ∙ f) none)

      pub found_here : v < most_facts * a.node → b ≡ true → Nowhere v → FirstAt (entry_placed P xs) (is_same P xs a) free v (most_facts * a.node)
      found_here l t none = record { inside = l; mark = mark; held = marked_entry; passes = sym same_entry ∙ t; before = none }

  -- by the answer
  pub found_at : {r : Option ℕ} {v : ℕ} → r ≡ Some v → Found free a r P xs → FirstAt (entry_placed P xs) (is_same P xs a) free v (most_facts * a.node)
  found_at e found = subst (λ (q : Option ℕ). Found free a q P xs) e found

  pub found_nothing : {r : Option ℕ} → r ≡ None → Found free a r P xs → Nowhere (most_facts * a.node)
  found_nothing e found = subst (λ (q : Option ℕ). Found free a q P xs) e found

-- ── entering the conclusions of node k, from 0 ──
-- the first i of them are entered
pub record Entering (k i : ℕ) (free free' : List ℕ) (P : Protocol) (xs : List Node) : Type 0 where
  pub marked : Marked free' (most_facts * k + i) P xs
  pub more : free_in P xs free' (most_facts * k + i)
      ≡ free_in P xs free (most_facts * k) ++ placed (suc k) 1 (take i (facts_of P conclusion_list (get_or xs k no_node)))

module _ {p s nodes : List ℕ} {k : ℕ} {free : List ℕ} {P : Protocol} {xs : List Node} (h : AtNode p s nodes k free P xs) where
  abbrev facts : List Fact
  facts = facts_of P conclusion_list (get_or xs k no_node)

  facts_most : length facts ≤ most_facts
  facts_most =
      facts_few P h.right.stand.prepared.body.within (get_or xs k no_node) (all_inside (NodeWithin P) no_node xs h.right.stand.within k h.inside)
      conclusion_list

  pub node_small : k < most_nodes
  node_small = omega (arith, h.inside, h.right.stand.few)

  pub entering_none : Entering k 0 free free P xs
  entering_none =
      let e : most_facts * k ≡ most_facts * k + 0 = omega arith in
      record {
        marked = subst (λ (t : ℕ). Marked free t P xs) e h.marked;
        more = ap (free_in P xs free) (sym e) ∙ sym (append-nil (free_in P xs free (most_facts * k)));
      }

  module _ (i : ℕ) (l : i < length facts) where
    pub conclusion_there : WholeFact p s nodes (record { node = k; list = conclusion_list; number = i }) P (get_or xs k no_node)
    conclusion_there = whole_fact h.right (record { node = k; list = conclusion_list; number = i }) h.inside l

    pub entry_bounds : (i < most_facts) × (most_facts * k + i < most_facts * most_nodes)
    entry_bounds = (omega (arith, facts_most), omega (arith, facts_most, node_small))

    at_node : (most_facts * k + i) / most_facts ≡ k
    at_node = omega (arith, entry_bounds.0)

    at_number : (most_facts * k + i) % most_facts ≡ i
    at_number = omega (arith, entry_bounds.0)

    entry_is : entry_placed P xs (most_facts * k + i) ≡ record { place = place_of (suc k) (suc i); fact = get_or facts i no_fact }
    entry_is =
        ap₂ (λ (n j : ℕ). record { place = place_of (suc n) (suc j); fact = fact_at P conclusion_list j (get_or xs n no_node) }) at_node at_number

    module _ (m : ℕ) (is : m ≡ mark_of (get_or facts i no_fact)) {free' : List ℕ} (e : Entering k i free free' P xs) where
      abbrev v : ℕ
      v = most_facts * k + i

      inside_table : v < length free'
      inside_table = omega (arith, e.marked.long, entry_bounds, h.inside)

      new_entry : EntryIs P xs v m
      new_entry =
          record {
            node = omega (arith, at_node, h.inside);
            listed = subst₂ (λ (n j : ℕ). j < length (facts_of P conclusion_list (get_or xs n no_node))) (sym at_node) (sym at_number) l;
            mark = is ∙ sym (ap₂ (λ (n j : ℕ). mark_of (fact_at P conclusion_list j (get_or xs n no_node))) at_node at_number);
          }

      entered_marked : Marked (set free' v (suc m)) (suc v) P xs
      entered_marked = record {
        long = omega (arith, length-set free' v (suc m), e.marked.long);
        each = λ w n q.
            by_order w v
            (λ a. e.marked.each w n (sym (get_or-set_other free' v w (suc m) 0 (λ z. omega arith)) ∙ q))
            (λ a.
            let same : m ≡ n = omega (arith, q, ap (λ (j : ℕ). get_or (set free' v (suc m)) j 0) a, get_or-set_same free' v (suc m) 0 inside_table) in
            subst₂ (EntryIs P xs) (sym a) same new_entry)
            (λ a. e.marked.each w n (sym (get_or-set_other free' v w (suc m) 0 (λ z. omega arith)) ∙ q));
        empty = λ w o. get_or-set_other free' v w (suc m) 0 (λ z. absurd (o (omega arith))) ∙ e.marked.empty w (λ z. o (omega arith));
      }

      entered_more : free_in P xs (set free' v (suc m)) (suc v) ≡ free_in P xs free (most_facts * k) ++ placed (suc k) 1 (take (suc i) facts)
      entered_more =
          let n : length (take i facts) ≡ i = length-take-le i facts (omega arith) in
          let one : 1 + length (take i facts) ≡ suc i = omega arith in
          free_more (entry_placed P xs) free' v m inside_table
          ∙ ap₂ (λ (x : List (Placed Fact)) (y : Placed Fact). x ++ (y ∷ [])) e.more entry_is
          ∙ append_assoc (free_in P xs free (most_facts * k)) (placed (suc k) 1 (take i facts)) _
          ∙ ap (λ (x : List (Placed Fact)). free_in P xs free (most_facts * k) ++ x)
          (sym (ap (placed (suc k) 1) (take-suc facts i no_fact l)
          ∙ placed_behind (suc k) 1 (take i facts) (get_or facts i no_fact ∷ [])
          ∙ ap (λ (j : ℕ). placed (suc k) 1 (take i facts) ++ placed (suc k) j (get_or facts i no_fact ∷ [])) one))

      -- one more
      pub entering_more : Entering k (i + 1) free (set free' v (m + 1)) P xs
      entering_more =
          let a : suc v ≡ most_facts * k + (i + 1) = omega arith in
          let b : suc i ≡ i + 1 = omega arith in
          let c : suc m ≡ m + 1 = omega arith in
          subst₂ (λ (j n : ℕ). Entering k j free (set free' v n) P xs) b c
          (let d : most_facts * k + suc i ≡ suc v = omega arith in
          record {
            marked = subst (λ (t : ℕ). Marked (set free' v (suc m)) t P xs) (sym d) entered_marked;
            more = ap (free_in P xs (set free' v (suc m))) d ∙ entered_more;
          })

  -- all of them
  pub entering_all : (i : ℕ) → i ≡ length facts → {free' : List ℕ} → Entering k i free free' P xs → Entered k free free' P xs
  entering_all i e {free'} g =
      let l : most_facts * k + i ≤ most_facts * (k + 1) = omega (arith, facts_most) in
      record {
        marked = record {
          long = g.marked.long;
          each = g.marked.each;
          empty = λ v o. g.marked.empty v (λ z. o (omega arith));
        };
        more = free_empty (entry_placed P xs) free' (most_facts * k + i) (most_facts * (k + 1)) l g.marked.empty ∙ g.more
            ∙ ap (λ (fs : List Fact). free_in P xs free (most_facts * k) ++ placed (suc k) 1 fs) (take_all i facts (omega arith));
      }

  -- by the count that code has
  module _ (count : ℕ) (counted : Promises₃ (NodeOf p nodes k) (λ (t : List ℕ) (Q : Protocol) (x : Node). count ≡ length (facts_of Q conclusion_list x))) where
    pub count_is : count ≡ length facts
    count_is = counted s P (get_or xs k no_node) (node_in h.right.stand k h.inside)

    pub inside : (i : ℕ) → i < count → i < length facts
    inside i l = omega (arith, count_is)
