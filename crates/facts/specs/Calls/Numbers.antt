-- Nodes and facts are numbered from 0 here and from 1 in crate rewriting: one law joins the two.
use Rattle.std.specs.Prelude.{ℕ, zero, suc, ◌<◌, List, ◌↔◌, ◌≡◌, refl, length, get_or}
use Rattle.std.specs.Prelude.{Option, Some, None}
use Rattle.std.proofs.lemmas.Option.{none-some}
use Rattle.std.proofs.Common.{ap, sym, ◌∙◌, subst}
use Rattle.lists.specs.Lists.{nth}
use Rattle.lists.specs.Lists.Laws.{at_inside, at_some, at_map, map_nth}
use Rattle.rewriting.specs.Graph as graph
use Rattle.rewriting.specs.Graph.{Place, in_node, premise_at, conclusion_at}
use Rattle.protocol.specs.Figures.{premise_list, conclusion_list}
use Rattle.protocol.specs.Protocol.{Fact, Protocol, no_fact}
use Rattle.steps.specs.Nodes.{Node, no_node}
use Rattle.steps.specs.Facts.{facts_of}
use Rattle.steps.specs.Runs.{rewritten, rewrittens}
use Rattle.facts.specs.Calls.{fact_at}

module _ (p : Protocol) (xs : List Node) where
  -- the place is that of fact i of a list of node n
  pub record Numbered (list : ℕ) (a : Place) (f : Fact) (n i : ℕ) : Type 0 where
    pub node_is : a.node ≡ suc n
    pub index_is : a.index ≡ suc i
    pub has_node : n < length xs
    pub has_fact : i < length (facts_of p list (get_or xs n no_node))
    pub fact_is : fact_at p list i (get_or xs n no_node) ≡ f

  -- one part of a node as crate rewriting sees it is one of its lists
  module _ (facts : graph.Node Fact → List Fact) (list : ℕ) (same : (x : Node) → facts (rewritten p x) ≡ facts_of p list x) (a : Place) (f : Fact) where
    numbered_at : (n i : ℕ) → Numbered list a f n i → graph.fact_at facts (rewrittens p xs) a ≡ Some f
    numbered_at n i h =
        let x : Node = get_or xs n no_node in
        ap (λ (k : ℕ). in_node facts k (nth (rewrittens p xs) a.node)) h.index_is
        ∙ ap (λ (k : ℕ). in_node facts (suc i) (nth (rewrittens p xs) k)) h.node_is
        ∙ ap (in_node facts (suc i)) (at_map (rewritten p) xs n x (at_inside no_node xs n h.has_node))
        ∙ ap (λ (l : List Fact). nth l (suc i)) (same x)
        ∙ at_inside no_fact (facts_of p list x) i h.has_fact
        ∙ ap {B = Option Fact} Some h.fact_is

    found : (n i : ℕ) → a.node ≡ suc n → a.index ≡ suc i → (x : Node) → nth xs (suc n) ≡ Some x → nth (facts_of p list x) (suc i) ≡ Some f → Numbered list a f
        n i
    found n i hn hi x stands fact =
        let (l, e) = at_some no_node xs n x stands in
        let (m, d) = at_some no_fact (facts_of p list x) i f fact in
        record {
          node_is = hn;
          index_is = hi;
          has_node = l;
          has_fact = subst (λ (y : Node). i < length (facts_of p list y)) (sym e) m;
          fact_is = ap (fact_at p list i) e ∙ d;
        }

    at_numbered : graph.fact_at facts (rewrittens p xs) a ≡ Some f → (n : ℕ) × (i : ℕ) × Numbered list a f n i
    at_numbered h = go (nth (rewrittens p xs) a.node) refl h
      where
        go : (o : Option (graph.Node Fact)) → nth (rewrittens p xs) a.node ≡ o → in_node facts a.index o ≡ Some f
            → (n : ℕ) × (i : ℕ) × Numbered list a f n i
        go None e q = absurd (none-some f q)
        go (Some y) e q =
            let (x, stands, is) = map_nth (rewritten p) xs a.node y e in
            let fact : nth (facts_of p list x) a.index ≡ Some f = ap (λ (l : List Fact). nth l a.index) (sym (same x) ∙ ap facts is) ∙ q in
            by a.node a.index refl refl x stands fact
          where
            by : (k j : ℕ) → a.node ≡ k → a.index ≡ j → (x : Node) → nth xs k ≡ Some x → nth (facts_of p list x) j ≡ Some f
                → (n : ℕ) × (i : ℕ) × Numbered list a f n i
            by zero j hk hj x stands fact = absurd (none-some x stands)
            by (suc n) zero hk hj x stands fact = absurd (none-some f fact)
            by (suc n) (suc i) hk hj x stands fact = (n, i, found n i hk hj x stands fact)

    joined : graph.fact_at facts (rewrittens p xs) a ≡ Some f ↔ ((n : ℕ) × (i : ℕ) × Numbered list a f n i)
    joined = (at_numbered, λ h. numbered_at h.0 h.1 h.2)

  pub premise_numbered : (a : Place) (f : Fact) → premise_at (rewrittens p xs) a ≡ Some f ↔ ((n : ℕ) × (i : ℕ) × Numbered premise_list a f n i)
  premise_numbered = joined (λ x. x.premises) premise_list (λ x. refl)

  pub conclusion_numbered : (a : Place) (f : Fact) → conclusion_at (rewrittens p xs) a ≡ Some f ↔ ((n : ℕ) × (i : ℕ) × Numbered conclusion_list a f n i)
  conclusion_numbered = joined (λ x. x.conclusions) conclusion_list (λ x. refl)
