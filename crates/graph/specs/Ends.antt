-- The ends of edges in the nodes: whether they are there, by number.
use Rattle.std.specs.Prelude.{ℕ, zero, suc, ◌-◌, ◌≤◌, ◌<◌, List, [], ◌∷◌, Bool, false, ◌&&◌, ◌≡◌, refl, leb, ltb, length, get_or}
use Rattle.std.specs.Prelude.{Option, Some, None}
use Rattle.std.proofs.Common.{ap, ap₂, sym, ◌∙◌, arith}
use Rattle.std.specs.Prelude.{slice_get}
use Rattle.lists.specs.Lists.{nth}
use Rattle.lists.specs.Lists.Laws.{at_inside, at_outside}
use Rattle.lists.specs.Tests.{by_bool, leb_le, leb_gt}
use Rattle.rewriting.specs.Graph as graph
use Rattle.rewriting.specs.Graph.{Place, in_node, premise_at, conclusion_at}
use Rattle.rewriting.specs.Checker.{is_some, ends_ok}
use Rattle.protocol.specs.Figures.{premise_list, conclusion_list}
use Rattle.protocol.specs.Protocol.{Fact, Protocol, no_fact}
use Rattle.steps.specs.Nodes.{Node, no_node}
use Rattle.steps.specs.Facts.{facts_of}
use Rattle.steps.specs.Runs.{protocol_facts, rewritten, rewrittens}
use Rattle.graph.specs.Graph.{place_of, edge_of}

module _ (p : Protocol) (list : ℕ) where
  abbrev pub fact_in : Option Node → ℕ → Option Fact
  fact_in None i = None
  fact_in (Some x) i = nth (facts_of p list x) i

  -- node `node` has fact `index` in the list, both from 1
  abbrev pub has_fact : List Node → Place → Bool
  has_fact xs a = is_some (fact_in (nth xs a.node) a.index)

  -- ── one part of a node as crate rewriting sees it is one of its lists ──
  module _ (facts : graph.Node Fact → List Fact) (same : (x : Node) → facts (rewritten p x) ≡ facts_of p list x) (i : ℕ) where
    at_part : (xs : List Node) (j : ℕ) → in_node facts i (slice_get (rewrittens p xs) j) ≡ fact_in (slice_get xs j) i
    at_part [] j = refl
    at_part (x ∷ xs) zero = ap (λ (l : List Fact). nth l i) (same x)
    at_part (x ∷ xs) (suc j) = at_part xs j

    nth_part : (xs : List Node) (k : ℕ) → in_node facts i (nth (rewrittens p xs) k) ≡ fact_in (nth xs k) i
    nth_part xs zero = refl
    nth_part xs (suc j) = at_part xs j

  -- ── by the code's numbers ──
  module _ (xs : List Node) (node index : ℕ) where
    pub no_node_lem : node ≡ 0 → false ≡ has_fact xs (place_of node index)
    no_node_lem h = ap (λ (k : ℕ). is_some (fact_in (nth xs k) index)) (sym h)

    pub node_past : length xs < node → false ≡ has_fact xs (place_of node index)
    node_past l = go node l
      where
        go : (k : ℕ) → length xs < k → false ≡ is_some (fact_in (nth xs k) index)
        go zero h = absurd (omega arith)
        go (suc k) h = ap (λ (o : Option Node). is_some (fact_in o index)) (sym (at_outside xs k (omega arith)))

    pub no_index : index ≡ 0 → false ≡ has_fact xs (place_of node index)
    no_index h = go (nth xs node) ∙ ap (λ (i : ℕ). is_some (fact_in (nth xs node) i)) (sym h)
      where
        go : (o : Option Node) → false ≡ is_some (fact_in o 0)
        go None = refl
        go (Some x) = refl

    pub index_there :
        (count : ℕ) → (node ≡ 0 → ⊥) → node ≤ length xs → (index ≡ 0 → ⊥) → count ≡ length (facts_of p list (get_or xs (node - 1) no_node))
        → leb index count ≡ has_fact xs (place_of node index)
    index_there count some-node inside some-index is = ap (leb index) is ∙ go node index some-node inside some-index
      where
        -- a number from 1 is there just where it is at most the length
        there : (fs : List Fact) (i : ℕ) → leb (suc i) (length fs) ≡ is_some (slice_get fs i)
        there fs i =
            by_bool (leb (suc i) (length fs))
            (λ t. t ∙ sym (ap is_some (at_inside no_fact fs i (leb_le (suc i) (length fs) t))))
            (λ f. f ∙ sym (ap is_some (at_outside fs i (let l = leb_gt (suc i) (length fs) f in omega arith))))

        go : (k i : ℕ) → (k ≡ 0 → ⊥) → k ≤ length xs → (i ≡ 0 → ⊥) → leb i (length (facts_of p list (get_or xs (k - 1) no_node))) ≡ is_some (fact_in (nth xs k) i)
        go zero i a l b = absurd (a refl)
        go (suc k) zero a l b = absurd (b refl)
        go (suc k) (suc i) a l b =
            let e : suc k - 1 ≡ k = omega arith in
            ap (λ (j : ℕ). leb (suc i) (length (facts_of p list (get_or xs j no_node)))) e
            ∙ there (facts_of p list (get_or xs k no_node)) i
            ∙ ap (λ (o : Option Node). is_some (fact_in o (suc i))) (sym (at_inside no_node xs k (omega arith)))

-- ── premises and conclusions ──
module _ (p : Protocol) (xs : List Node) where
  premise_there : (a : Place) → is_some (premise_at (rewrittens p xs) a) ≡ has_fact p premise_list xs a
  premise_there a = ap is_some (nth_part p premise_list (λ x. x.premises) (λ x. refl) a.index xs a.node)

  conclusion_there : (a : Place) → is_some (conclusion_at (rewrittens p xs) a) ≡ has_fact p conclusion_list xs a
  conclusion_there a = ap is_some (nth_part p conclusion_list (λ x. x.conclusions) (λ x. refl) a.index xs a.node)

  -- both ends of an edge, by their numbers as the code reads them
  module _ (a b : Place) {m i n k : ℕ} (from-node : m ≡ a.node) (from-index : i ≡ a.index) (to-node : n ≡ b.node) (to-index : k ≡ b.index) where
    pub ends_read :
        {s t : Bool} → s ≡ has_fact p conclusion_list xs (place_of m i) → t ≡ has_fact p premise_list xs (place_of n k)
        → (s && (t && ltb m n)) ≡ ends_ok (protocol_facts p) (rewrittens p xs) (edge_of a b)
    ends_read h g =
        ap₂ (λ (x y : Bool). x && y) (h ∙ ap₂ (λ (u v : ℕ). has_fact p conclusion_list xs (place_of u v)) from-node from-index ∙ sym (conclusion_there a))
        (ap₂ (λ (x y : Bool). x && y) (g ∙ ap₂ (λ (u v : ℕ). has_fact p premise_list xs (place_of u v)) to-node to-index ∙ sym (premise_there b))
        (ap₂ ltb from-node to-node))
