-- The two facts of an edge whose ends are there.
use Rattle.std.specs.Prelude.{ℕ, ◌+◌, ◌*◌, ◌-◌, ◌≤◌, ◌<◌, List, Bool, true, false, ◌&&◌, ◌≡◌, refl, ltb, length, get_or}
use Rattle.std.specs.Prelude.{Option, Some, None}
use Rattle.std.proofs.Common.{ap, ap₂, sym, ◌∙◌, subst, subst₂, arith}
use Rattle.lists.specs.Tests.{true_false, and_split}
use Rattle.lists.specs.All.Laws.{all_inside}
use Rattle.rewriting.specs.Graph.{Place, Edge, premise_at, conclusion_at}
use Rattle.rewriting.specs.Checker.{is_some, ends_ok, agree, facts_ok}
use Rattle.protocol.specs.Figures.{premise_list, conclusion_list}
use Rattle.protocol.specs.Protocol.{Fact, Protocol}
use Rattle.steps.specs.Nodes.{Node, no_node}
use Rattle.steps.specs.Facts.{facts_of, same_fact}
use Rattle.steps.specs.Facts.Formed.{by_equations}
use Rattle.steps.specs.Runs.{protocol_facts, rewrittens}
use Rattle.steps.specs.Table.Laws.{node_in}
use Rattle.steps.specs.Values.{NodeRight}
use Rattle.steps.specs.Causes.Good.{RightNodes}
use Rattle.facts.specs.declared.writing.Wanted.TheVariants as want
use Rattle.facts.specs.declared.nodes.FactId.{FactId}
use Rattle.facts.specs.Calls.{fact_at, FactIn, FactsIn, TellsFacts}
use Rattle.facts.specs.Calls.Meaning.{fact_formed}
use Rattle.facts.specs.Calls.Numbers.{Numbered, premise_numbered, conclusion_numbered}
use Rattle.graph.specs.Graph.{Graph}
use Rattle.graph.specs.Table.{edge_fields, edge_at, no_edge, GraphIn}

-- ── what is asked ──
-- edge j of the table, whose ends are there, among right nodes
pub record EdgeIn (p s nodes edges : List ℕ) (j : ℕ) (P : Protocol) (xs : List Node) : Type 0 where
  pub nodes_in : RightNodes p s nodes (length xs) P xs
  pub listed : edge_fields * j + edge_fields ≤ length edges
  pub ends : ends_ok (protocol_facts P) (rewrittens P xs) (edge_at edges j) ≡ true

-- a graph of which 10 is absent
pub record EndedIn (p s nodes : List ℕ) (n : ℕ) (edges : List ℕ) (m : ℕ) (P : Protocol) (g : Graph) : Type 0 where
  pub graph_in : GraphIn p s nodes n edges m P g
  pub ended : (j : ℕ) → j < m → ends_ok (protocol_facts P) (rewrittens P g.nodes) (get_or g.edges j no_edge) ≡ true

abbrev pub EndedOf : List ℕ → List ℕ → ℕ → List ℕ → ℕ → List ℕ → Protocol → Graph → Type 0
EndedOf p nodes n edges m s = EndedIn p s nodes n edges m

-- ── an end that is there is a fact of a right node ──
is_some_lem : {A : Type 0} (o : Option A) → is_some o ≡ true → (a : A) × (o ≡ Some a)
is_some_lem None h = true_false false h refl
is_some_lem (Some a) h = (a, refl)

-- the place is that of a fact, by its numbers from 0
pub record Ended (P : Protocol) (xs : List Node) (list : ℕ) (a : Place) (o : Option Fact) : Type 0 where
  pub fact : Fact
  pub node : ℕ
  pub number : ℕ
  pub there : o ≡ Some fact
  pub is : Numbered P xs list a fact node number

module _ {p s nodes : List ℕ} {P : Protocol} {xs : List Node} (right : RightNodes p s nodes (length xs) P xs) where
  module _ {list : ℕ} {a : Place} {o : Option Fact} (e : Ended P xs list a o) {k i : ℕ} (of_node : k ≡ a.node) (of-index : i ≡ a.index) where
    abbrev id : FactId
    id = record { node = k - 1; list = list; number = i - 1 }

    node_is : e.node ≡ k - 1
    node_is = omega (arith, e.is.node_is)

    number_is : e.number ≡ i - 1
    number_is = omega (arith, e.is.index_is)

    end_inside : k - 1 < length xs
    end_inside = omega (arith, node_is, e.is.has_node)

    pub end_in : FactIn p s nodes id want.All P (get_or xs (k - 1) no_node)
    end_in = record {
      node = node_in right.stand (k - 1) end_inside;
      right = all_inside (NodeRight P) no_node xs right.right (k - 1) end_inside;
      listed = subst₂ (λ (m j : ℕ). j < length (facts_of P list (get_or xs m no_node))) node_is number_is e.is.has_fact;
      has = tt;
    }

    pub end_is : fact_at P list (i - 1) (get_or xs (k - 1) no_node) ≡ e.fact
    end_is = ap₂ (λ (m j : ℕ). fact_at P list j (get_or xs m no_node)) (sym node_is) (sym number_is) ∙ e.is.fact_is

-- ── both ends of an edge ──
module _ {p s nodes edges : List ℕ} {j : ℕ} {P : Protocol} {xs : List Node} (h : EdgeIn p s nodes edges j P xs) where
  abbrev e : Edge
  e = edge_at edges j

  abbrev has_source : Bool
  has_source = is_some (conclusion_at (rewrittens P xs) e.source)

  abbrev has_target : Bool
  has_target = is_some (premise_at (rewrittens P xs) e.target)

  abbrev earlier : Bool
  earlier = ltb e.source.node e.target.node

  abbrev later : Bool
  later = has_target && earlier

  pub source_end : Ended P xs conclusion_list e.source (conclusion_at (rewrittens P xs) e.source)
  source_end =
      let (f, there) = is_some_lem (conclusion_at (rewrittens P xs) e.source) (and_split has_source later h.ends).0 in
      let (n, i, is) = (conclusion_numbered P xs e.source f).0 there in
      record { fact = f; node = n; number = i; there = there; is = is }

  pub target_end : Ended P xs premise_list e.target (premise_at (rewrittens P xs) e.target)
  target_end =
      let (f, there) = is_some_lem (premise_at (rewrittens P xs) e.target) (and_split has_target earlier (and_split has_source later h.ends).1).0 in
      let (n, i, is) = (premise_numbered P xs e.target f).0 there in
      record { fact = f; node = n; number = i; there = there; is = is }

  -- by their numbers as the code reads them
  module _ {m i n k : ℕ} (from-node : m ≡ e.source.node) (from-index : i ≡ e.source.index) (to-node : n ≡ e.target.node)
      (to-index : k ≡ e.target.index) where
    pub facts_in :
        FactsIn p s nodes (id h.nodes_in source_end from-node from-index) want.All (id h.nodes_in target_end to-node to-index) want.All P
        (get_or xs (m - 1) no_node) (get_or xs (n - 1) no_node)
    facts_in = record {
      first = end_in h.nodes_in source_end from-node from-index;
      second = end_in h.nodes_in target_end to-node to-index;
    }

    pub facts_agree :
        (r : Bool) → TellsFacts P (fact_at P conclusion_list (i - 1) (get_or xs (m - 1) no_node)) (fact_at P premise_list (k - 1) (get_or xs (n - 1) no_node)) r
        → r ≡ facts_ok (protocol_facts P) (rewrittens P xs) e
    facts_agree r told =
        by_equations P h.nodes_in.stand.prepared.body.within _ _ (fact_formed facts_in.first) (fact_formed facts_in.second) r told
        ∙ ap₂ same_fact (end_is h.nodes_in source_end from-node from-index) (end_is h.nodes_in target_end to-node to-index)
        ∙ sym (ap₂ (agree (protocol_facts P)) source_end.there target_end.there)

-- ── the edges of a graph of which 10 is absent ──
pub edge_in :
    {p s nodes : List ℕ} {n : ℕ} {edges : List ℕ} {m : ℕ} {P : Protocol} {g : Graph} → EndedIn p s nodes n edges m P g → (j : ℕ) → j < m
    → EdgeIn p s nodes edges j P g.nodes
edge_in {p} {s} {nodes} {P = P} {g} h j l = record {
  nodes_in = subst (λ (k : ℕ). RightNodes p s nodes k P g.nodes) (sym h.graph_in.nodes_in.stand.count) h.graph_in.nodes_in;
  listed = omega (arith, h.graph_in.edges_in.few, h.graph_in.edges_in.long);
  ends = ap (ends_ok (protocol_facts P) (rewrittens P g.nodes)) (sym (h.graph_in.edges_in.each j l)) ∙ h.ended j l;
}
