-- Change 4 leaves document 01's runs as they were: of a protocol and nodes without the six functions the runs, the accepted graphs and the earliest
-- sources are those that the ten equations alone give.
use Rattle.std.specs.Prelude.{ℕ, zero, suc, ◌-◌, ◌<◌, List, [], ◌∷◌, map, Bool, true, false, ◌↔◌, ◌≡◌, eqb}
use Rattle.std.specs.Prelude.{Option, Some, None}
use Rattle.std.proofs.Math.Path.{refl, sym, subst}
use Rattle.std.proofs.Common.{◌∙◌, ap, arith}
use Rattle.lists.specs.Choice.{pick, by_size, clash}
use Rattle.lists.specs.All.{All}
use Rattle.lists.specs.All.Laws.{all_map, all_both, all_nth, all_at, map_all}
use Rattle.lists.specs.Pairs.{Pairs, nothing, more, pairs_head, pairs_tail, pairs_length}
use Rattle.term.specs.Term.{variable, Term, leaf, Formed}
use Rattle.term.specs.Arity.{arity, tag_arities}
use Rattle.message.specs.Equations.Older.{older_arities, OlderSame, alike, older_same}
use Rattle.message.specs.Substitution.{sub}
use Rattle.message.specs.Substitution.Laws.{sub_formed}
use Rattle.protocol.specs.Figures.{premise_list, conclusion_list}
use Rattle.protocol.specs.Protocol.{Fact, Rule, Protocol, fact_of, list_of}
use Rattle.protocol.specs.Protocol.Limits.{Within}
use Rattle.rules.specs.Numbered.{first_signing, makes_fresh, hears, injects, names, learns, fixed, variables, known, applies, applied, rule_as, rule_of}
use Rattle.rules.specs.Numbered.Map.{number_fixed, number_apply, number_own}
use Rattle.rules.specs.Numbered.Limits.{variables_count, variables_formed}
use Rattle.rewriting.specs.Graph as graph
use Rattle.rewriting.specs.Graph.{Edge}
use Rattle.rewriting.specs.Graph.Laws.{Implies, accepted_as}
use Rattle.rewriting.specs.Earliest.{Earliest}
use Rattle.rewriting.proofs.Earliest.Laws.{earliest_as}
use Rattle.rewriting.specs.Rewriting.{Rewrites}
use Rattle.rewriting.proofs.Rewriting.Laws.{GoodNode}
use Rattle.rewriting.proofs.Rewriting.Laws as machines
use Rattle.steps.specs.Nodes.{Node, NodeWithin}
use Rattle.steps.specs.Facts.{value_at, filled_fact, filled_list, facts_of, same_fact, Sames, is_linear}
use Rattle.steps.specs.Facts.Formed.{FactFormed, facts_formed, formed_decides}
use Rattle.steps.specs.Runs.{protocol_facts, rewritten, rewrittens}
use Rattle.steps.specs.Runs.Equations.{EqualFacts, RunSame, AcceptedSame, EarliestSame, source_holds, target_holds, run_exactly}

module _ (p : Protocol) where
  abbrev free : List ℕ
  free = p.functions

  abbrev older : ℕ → Option ℕ
  older = arity (older_arities free)

  -- "equal facts count as the same fact", by the ten equations
  pub record OlderFact (f g : Fact) : Type 0 where
    pub symbols : f.symbol ≡ g.symbol
    pub terms : Pairs (OlderSame free) f.terms g.terms

  -- ── without the six functions ──
  abbrev pub OlderTerms : Fact → Type 0
  OlderTerms f = All (Formed older) f.terms

  abbrev pub OlderRule : Rule → Type 0
  OlderRule u = All (All OlderTerms) u.lists

  pub record OlderNode (x : Node) : Type 0 where
    pub number : x.rule < first_signing
    pub values : All (Formed older) x.values

  -- ── the built-in rules up to 94 are without them ──
  fixed_older : (n : ℕ) → OlderRule (fixed n)
  unfolding fixed
  fixed_older n =
      let last = pick (eqb n 3) names learns in
      let third = pick (eqb n 2) injects last in
      by_test (eqb n 0) makes_fresh (pick (eqb n 1) hears third) (tt, (tt, (one 0, tt)))
      (by_test (eqb n 1) hears third (one 2, (tt, (one 3, tt)))
      (by_test (eqb n 2) injects last (one 3, (one 3, (one 1, tt)))
      (by_test (eqb n 3) names learns (tt, (tt, (one 3, tt))) (one 0, (tt, (one 3, tt))))))
    where
      one : (y : ℕ) → All OlderTerms (fact_of y (leaf variable 0 ∷ []) ∷ [])
      one y = ((tt, tt), tt)

      by_test : (b : Bool) (u v : Rule) → OlderRule u → OlderRule v → OlderRule (pick b u v)
      by_test true u v h k = h
      by_test false u v h k = k

  applies_older : (t k : ℕ) → older t ≡ Some k → OlderRule (applies t k)
  applies_older t k e =
      (premises_older 0 k, (tt, ((((e ∙ ap Some (sym (variables_count 0 k)), variables_formed (older_arities free) 0 k), tt), tt), tt)))
    where
      premises_older : (i n : ℕ) → All OlderTerms (map known (variables i n))
      premises_older i zero = tt
      premises_older i (suc n) = ((tt, tt), premises_older (suc i) n)

  from_arity : (t : ℕ) (r : Rule) (o : Option ℕ) → t < 29 → arity (tag_arities free) t ≡ o → applied t o ≡ Some r → OlderRule r
  from_arity t r (Some k) l h e = let z : applies t k ≡ r = cc in subst OlderRule z (applies_older t k (alike free t l ∙ h))
  from_arity t r None l h e = clash (cc)

  module _ (rules-older : All OlderRule p.rules) where
    rule_older : (n : ℕ) (r : Rule) → n < 95 → rule_of p n ≡ Some r → OlderRule r
    unfolding rule_of
    rule_older n r l e =
        by_size n 5
        (λ h. let z : Some (fixed n) ≡ Some r = sym (ap (rule_as p) (number_fixed n h)) ∙ e in
        let q : fixed n ≡ r = cc in subst OlderRule q (fixed_older n)) λ h.
        by_size n 31
        (λ k. from_arity (n - 2) r (arity (tag_arities free) (n - 2)) (omega arith) refl (sym (ap (rule_as p) (number_apply n h k)) ∙ e)) λ k.
        all_nth OlderRule p.rules rules-older (suc (n - 31)) r (sym (ap (rule_as p) (number_own n k l)) ∙ e)

    fact_older : (vs : List Term) → All (Formed older) vs → (f : Fact) → OlderTerms f → OlderTerms (filled_fact vs f)
    fact_older vs w f h =
        map_all (Formed older) (Formed older) (sub (value_at vs))
        (λ t g. sub_formed older (value_at vs) t g (λ v o. all_at (Formed older) (leaf variable v) tt vs w v)) f.terms h

    pub facts_older : (x : Node) → NodeWithin p x → OlderNode x → (list : ℕ) → All OlderTerms (facts_of p list x)
    facts_older x b o list =
        subst (λ (u : Option Rule). All OlderTerms (filled_list list x.values u)) (sym b.known)
        (map_all OlderTerms OlderTerms (filled_fact x.values) (fact_older x.values o.values) (list_of list b.is)
        (all_at (All OlderTerms) [] tt b.is.lists (rule_older x.rule b.is o.number b.known) list))

  -- ── between such facts the twelve equations make equal what the ten do ──
  terms_older : (ts us : List Term) → All (Formed older) ts → All (Formed older) us → Sames (arity (tag_arities free)) ts us ↔ Pairs (OlderSame free) ts us
  terms_older [] [] w v = ((λ s. nothing), (λ s. tt))
  terms_older [] (u ∷ us) w v = ((λ s. absurd s), (λ s. omega (arith, pairs_length s)))
  terms_older (t ∷ ts) [] w v = ((λ s. absurd s), (λ s. omega (arith, pairs_length s)))
  terms_older (t ∷ ts) (u ∷ us) w v =
      let one = older_same free t u w.0 v.0 in
      let others = terms_older ts us w.1 v.1 in (
        (λ s. more (one.0 s.0) (others.0 s.1)),
        (λ s. (one.1 (pairs_head s), others.1 (pairs_tail s))),
      )

  pub fact_exactly : (f g : Fact) → OlderTerms f → OlderTerms g → EqualFacts p f g ↔ OlderFact f g
  fact_exactly f g w v =
      let e = terms_older f.terms g.terms w v in (
        (λ s. record { symbols = s.symbols; terms = e.0 s.terms }),
        (λ s. record { symbols = s.symbols; terms = e.1 s.terms }),
      )

-- ── runs, accepted graphs, earliest sources ──
module _ (p : Protocol) (fit : Within p) (rules-older : All (OlderRule p) p.rules) (xs : List Node) (within : All (NodeWithin p) xs)
    (nodes-older : All (OlderNode p) xs) where
  older_each : All (λ x. (list : ℕ) → All (OlderTerms p) (facts_of p list x)) xs
  older_each =
      all_map (λ x. NodeWithin p x × OlderNode p x) _ (λ x h list. facts_older p rules-older x h.0 h.1 list) xs
      (all_both (NodeWithin p) (OlderNode p) xs within nodes-older)

  both : (f g : Fact) → OlderTerms p f → OlderTerms p g → EqualFacts p f g ↔ OlderFact p f g
  both = fact_exactly p

  equal_older : Implies (rewrittens p xs) (EqualFacts p) (OlderFact p)
  equal_older a b f g h k =
      (both f g (source_holds p xs (OlderTerms p) older_each a f h) (target_holds p xs (OlderTerms p) older_each b g k)).0

  older_equal : Implies (rewrittens p xs) (OlderFact p) (EqualFacts p)
  older_equal a b f g h k =
      (both f g (source_holds p xs (OlderTerms p) older_each a f h) (target_holds p xs (OlderTerms p) older_each b g k)).1

  pub accepted_older : (edges : List Edge) → AcceptedSame p xs edges ↔ graph.Accepted (OlderFact p) (is_linear p) (rewrittens p xs) edges
  accepted_older edges = (accepted_as equal_older (is_linear p) edges, accepted_as older_equal (is_linear p) edges)

  pub earliest_older : (edges : List Edge) → EarliestSame p xs edges ↔ Earliest (OlderFact p) (is_linear p) (rewrittens p xs) edges
  earliest_older edges = (earliest_as (is_linear p) equal_older older_equal edges, earliest_as (is_linear p) older_equal equal_older edges)

  -- a fact that is well formed under both tables
  abbrev Older : Fact → Type 0
  Older f = FactFormed p f × OlderTerms p f

  older_decides : (f g : Fact) → Older f → Older g → (same_fact f g ≡ true) ↔ OlderFact p f g
  older_decides f g a b =
      let d = formed_decides p fit f g a.0 b.0 in
      let e = both f g a.1 b.1 in
      ((λ t. e.0 (d.0 t)), (λ s. d.1 (e.1 s)))

  node_good : (x : Node) → NodeWithin p x × OlderNode p x → GoodNode Older (rewritten p x)
  node_good x h =
      let all : (list : ℕ) → All Older (facts_of p list x) = λ list.
      all_both (FactFormed p) (OlderTerms p) (facts_of p list x) (facts_formed p fit x h.0 list) (facts_older p rules-older x h.0 h.1 list) in
      record { premises = all premise_list; conclusions = all conclusion_list }

  pub run_older : RunSame p xs ↔ Rewrites (OlderFact p) (is_linear p) (rewrittens p xs)
  run_older =
      let now = run_exactly p fit xs within in
      let then = machines.run_exactly (protocol_facts p) (OlderFact p) Older older_decides (rewrittens p xs)
      (map_all (λ x. NodeWithin p x × OlderNode p x) (GoodNode Older) (rewritten p) node_good xs
      (all_both (NodeWithin p) (OlderNode p) xs within nodes-older)) in
      ((λ r. then.0 (now.1 r)), (λ r. now.0 (then.1 r)))
