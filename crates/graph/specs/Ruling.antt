-- What the code answers of a graph file.
use Rattle.std.specs.Prelude.{ℕ, List, ⊤, MatchResult, ◌≡◌, refl, length}
use Rattle.std.specs.Prelude.{Option, Some, None, Result, Ok, Err}
use Rattle.std.proofs.Math.Path.{ap, sym, subst}
use Rattle.std.proofs.Common.{ap₂, ◌∙◌, arith}
use Rattle.lists.specs.All.{All}
use Rattle.lists.specs.Lists.{first_bad}
use Rattle.rewriting.specs.Table.{Ruling, passed, refused, or_refuse}
use Rattle.rewriting.specs.Table.Laws.{refused_passed}
use Rattle.rewriting.specs.Writer.{first_name_twice}
use Rattle.rewriting.specs.Answers.{answered}
use Rattle.rewriting.specs.Checker.{ends_ok, facts_ok, premises_ok, conclusions_ok}
use Rattle.protocol.specs.Protocol.{Protocol}
use Rattle.steps.specs.Nodes.{Node, NodeWithin}
use Rattle.steps.specs.Values.{NodeRight}
use Rattle.steps.specs.Values.Scan.{found_refused, found_passed}
use Rattle.steps.specs.Values.Tests.{node_values_ok, node_terms_ok}
use Rattle.steps.specs.Runs.{protocol_facts, rewrittens}
use Rattle.steps.specs.Causes.{node_ruling}
use Rattle.steps.specs.Causes.Code.{counted}
use Rattle.steps.specs.Causes.Good.{RightNodes, count_of, good_passing}
use Rattle.rewriting.specs.declared.Refusal.{Refusal}
use Rattle.graph.specs.Graph.{Graph}
use Rattle.graph.specs.Causes.{ruling, graph_ruling}
use Rattle.graph.specs.Table.{no_edge, ReadIn, GraphIn}
use Rattle.graph.specs.Joins.{EndedIn}
use Rattle.graph.specs.Scan.{none_bad}

-- ── the causes of edges, then those of uses ──
module _ (P : Protocol) (g : Graph) where
  abbrev pub uses_ruling : Ruling Graph
  uses_ruling =
      or_refuse 12 (first_bad (premises_ok (protocol_facts P) g.edges) 1 (rewrittens P g.nodes))
      (or_refuse 13 (first_bad (conclusions_ok (protocol_facts P) g.edges) 1 (rewrittens P g.nodes)) (passed g))

  abbrev pub edges_ruling : Ruling Graph
  edges_ruling =
      or_refuse 10 (first_bad (λ k e. ends_ok (protocol_facts P) (rewrittens P g.nodes) e) 1 g.edges)
      (or_refuse 11 (first_bad (λ k e. facts_ok (protocol_facts P) (rewrittens P g.nodes) e) 1 g.edges) uses_ruling)

-- ── what the code's answer says of a ruling ──
-- it passes the graph, or refuses it
abbrev pub Decided : Ruling Graph → Graph → Result ⊤ Refusal → Type 0
Decided q g (Ok _) = q ≡ passed g
Decided q g (Err d) = q ≡ refused d.number d.item

-- of nodes that were read, also that they are right
abbrev pub ReadDecided : Protocol → Graph → Result ⊤ Refusal → Type 0
ReadDecided P g r = Decided (ruling P g) g r × (ruling P g ≡ passed g → All (NodeRight P) g.nodes)

-- of a file: the graph that passes, its nodes right in their table, and how many edges it has; or the refusal
pub record GoodGraph (P : Protocol) (p s nodes : List ℕ) (n m : ℕ) : Type 0 where
  pub is : Graph
  pub ruled : graph_ruling P s ≡ passed is
  pub nodes_in : RightNodes p s nodes n P is.nodes
  pub edge_count : length is.edges ≡ m

abbrev pub Answered : Protocol → List ℕ → List ℕ → List ℕ → Result (ℕ × ℕ) Refusal → Type 0
Answered P p s nodes (Ok (n, m)) = GoodGraph P p s nodes n m
Answered P p s nodes (Err d) = graph_ruling P s ≡ refused d.number d.item

-- ── laws ──
-- an answer of what follows is one of the whole
pub decided_as : {q q' : Ruling Graph} → q ≡ q' → (g : Graph) (r : Result ⊤ Refusal) → Decided q g r → Decided q' g r
decided_as e g r h = subst (λ (q : Ruling Graph). Decided q g r) e h

-- a pass that found nothing leaves what follows
pub next_decided :
    (n : ℕ) (g : Graph) {k o : Option ℕ} → k ≡ o → (q : Ruling Graph) → k ≡ None → (r : Result ⊤ Refusal) → Decided q g r → Decided (or_refuse n o q) g r
next_decided n g found q none r h = decided_as (found_passed n found q none) g r h

-- the last pass
pub last_decided :
    (n : ℕ) (g : Graph) {k o : Option ℕ} → k ≡ o → (r : Result ⊤ Refusal)
    → MatchResult r (λ _. k ≡ None) (λ d. (d.number ≡ n) × (k ≡ Some d.item)) → Decided (or_refuse n o (passed g)) g r
last_decided n g found (Ok u) h = sym (found_passed n found (passed g) h)
last_decided n g found (Err d) h = sym (found_refused n found (passed g) d h)

-- ── the causes of nodes come first, and what follows them does not change them ──
module _ {A B : Type 0} (n : ℕ) where
  pub refused_first :
      (o : Option ℕ) (q : Ruling A) (r : Ruling B) (i k : ℕ) → (q ≡ refused i k → r ≡ refused i k) → or_refuse n o q ≡ refused i k
      → or_refuse n o r ≡ refused i k
  refused_first None q r i k f h = f h
  refused_first (Some j) q r i k f h =
      let a : n ≡ i = cc in
      let b : j ≡ k = cc in
      ap₂ (λ (x y : ℕ). refused x y) a b

  passed_first :
      (o : Option ℕ) (q : Ruling A) (r t : Ruling B) (y : A) → (q ≡ passed y → t ≡ r) → or_refuse n o q ≡ passed y → t ≡ or_refuse n o r
  passed_first None q r t y f h = f h
  passed_first (Some j) q r t y f h = absurd (refused_passed n j y h)

pub counted_refused : (q : Ruling (List Node)) (a b : ℕ) → refused a b ≡ counted q → q ≡ refused a b
counted_refused (passed ys) a b h = absurd (refused_passed a b (length ys) h)
counted_refused (refused c d) a b h =
    let e : c ≡ a = cc in
    let f : d ≡ b = cc in
    ap₂ (λ (x y : ℕ). refused x y) e f

module _ (P : Protocol) (g : Graph) (r : Result ℕ Refusal) (told : answered r ≡ counted (node_ruling P g.nodes)) where
  abbrev values : Option ℕ
  values = first_bad (λ k x. node_values_ok P x) 1 g.nodes

  abbrev sizes : Option ℕ
  sizes = first_bad (λ k x. node_terms_ok P x) 1 g.nodes

  abbrev names : Option ℕ
  names = first_name_twice (rewrittens P g.nodes)

  pub nodes_refused : (d : Refusal) → r ≡ Err d → ReadDecided P g (Err d)
  nodes_refused d h =
      let a = d.number in
      let b = d.item in
      let q = counted_refused (node_ruling P g.nodes) a b (ap answered (sym h) ∙ told) in
      let e : ruling P g ≡ refused a b =
      refused_first 7 values _ _ a b (refused_first 8 sizes _ _ a b (refused_first 9 names _ _ a b (λ z. absurd (refused_passed a b g.nodes (sym z))))) q in
      (e, λ z. absurd (refused_passed a b g (sym e ∙ z)))

  module _ {k : ℕ} (h : r ≡ Ok k) (within : All (NodeWithin P) g.nodes) where
    good : passed k ≡ counted (node_ruling P g.nodes)
    good = ap answered (sym h) ∙ told

    pub nodes_right : All (NodeRight P) g.nodes
    nodes_right = (good_passing P g.nodes within k good).1.right

    pub nodes_passed : (q : Result ⊤ Refusal) → Decided (edges_ruling P g) g q → ReadDecided P g q
    nodes_passed q d =
        let (ys, e, l) = count_of (node_ruling P g.nodes) k good in
        let same : edges_ruling P g ≡ ruling P g =
        passed_first 7 values _ _ _ ys (passed_first 8 sizes _ _ _ ys (passed_first 9 names _ _ _ ys (λ z. refl))) e in
        (decided_as same g q d, λ z. nodes_right)

    pub read_right :
        {p s nodes : List ℕ} {n : ℕ} {edges : List ℕ} {m : ℕ} → ReadIn p s nodes n edges m P g → GraphIn p s nodes n edges m P g
    read_right i = record { nodes_in = record { stand = i.nodes_in; right = nodes_right }; edges_in = i.edges_in }

-- ── 10 absent: the pass found none ──
pub ended_in :
    {p s nodes : List ℕ} {n : ℕ} {edges : List ℕ} {m : ℕ} {P : Protocol} {g : Graph} → GraphIn p s nodes n edges m P g
    → None ≡ first_bad (λ k e. ends_ok (protocol_facts P) (rewrittens P g.nodes) e) 1 g.edges → EndedIn p s nodes n edges m P g
ended_in {P = P} {g} h found = record {
  graph_in = h;
  ended = λ j l. none_bad (ends_ok (protocol_facts P) (rewrittens P g.nodes)) no_edge g.edges (sym found) j (omega (arith, h.edges_in.count));
}
