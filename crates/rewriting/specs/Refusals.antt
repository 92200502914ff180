-- The passes over a graph find what rows 10 to 13 say, the smallest item of each.
use Rattle.std.specs.Prelude.{◌≡◌, refl, Bool, true, false, ◌&&◌, List, [], ◌∷◌, ℕ, suc, leb, ltb}
use Rattle.std.proofs.Common.{sym, ◌∙◌, ap, inl, inr, ⊎_elim, arith}
use Rattle.std.proofs.Math.Bool.{and-false}
use Rattle.std.specs.Prelude.{Option, Some, None}
use Rattle.std.proofs.lemmas.Option.{none-some}
use Rattle.lists.specs.Tests.{by_bool, by_option, true_false, not_true, eqb_eq, leb_gt, gt_leb}
use Rattle.lists.specs.Lists.{all_by, nth}
use Rattle.lists.specs.Lists.Laws.{all_fails, fails_all}
use Rattle.rewriting.specs.Facts.{Facts, Tested}
use Rattle.rewriting.specs.Graph.{Node, Edge, in_node, fact_at, out_of, premise_at, conclusion_at}
use Rattle.rewriting.specs.Table.{Fails, Pass}
use Rattle.rewriting.specs.Table.Passes.{restated, least_pass}
use Rattle.rewriting.specs.Causes.{EndMissing, FactsDiffer, NotOneEdge, UsedTwice}
use Rattle.rewriting.specs.Places.{Placed, placed}
use Rattle.rewriting.specs.Places.Laws.{placed_at, placed_of}
use Rattle.rewriting.specs.Checker.{is_some, ends_ok, agree, facts_ok, one_into, one_out}
use Rattle.rewriting.specs.Names.{name_pass}

-- The first node with a fact, in one part, that fails a test.
module _ {Fact : Type 0} (part : Node Fact → List Fact) (ok : Placed Fact → Bool) (nodes : List (Node Fact)) where
  pub record FactFails (k : ℕ) : Type 0 where
    pub index : ℕ
    pub fact : Fact
    pub stands : fact_at part nodes (record { node = k; index = index }) ≡ Some fact
    pub is_false : ok (record { place = record { node = k; index = index }; fact = fact }) ≡ false

  abbrev node_ok : ℕ → Node Fact → Bool
  node_ok k x = all_by ok (placed k 1 (part x))

  pub fails_fact : (k : ℕ) → Fails node_ok nodes k → FactFails k
  fails_fact k h =
      let (t, m, e) = all_fails ok (placed k 1 (part h.which)) h.is_false in
      let (a, b) = placed_at k (part h.which) t m in
      record {
        index = t.place.index;
        fact = t.fact;
        stands = ap (in_node part t.place.index) h.stands ∙ b;
        is_false = ap (λ n. ok (record { place = record { node = n; index = t.place.index }; fact = t.fact })) (sym a) ∙ e;
      }

  pub fact_fails : (k : ℕ) → FactFails k → Fails node_ok nodes k
  fact_fails k h =
      by_option (nth nodes k)
      (λ n. let s = h.stands in absurd (none-some h.fact (rw n at s)))
      (λ x e.
      let t : Placed Fact = record { place = record { node = k; index = h.index }; fact = h.fact } in
      let s = h.stands in
      record { which = x; stands = e; is_false = fails_all ok (placed k 1 (part x)) t (placed_of k (part x) t refl (rw e at s)) h.is_false })

  abbrev pub part_pass : ℕ → Pass
  part_pass n = restated (least_pass n node_ok nodes) FactFails fails_fact fact_fails

module _ (F : Facts) (nodes : List (Node F.Fact)) (edges : List Edge) where
  open F use {Fact, same, linear}

  -- 10.
  two_false : (a b : Bool) → (a && (b && false)) ≡ false
  two_false true b = and-false b
  two_false false b = refl

  pub fails_end : (k : ℕ) → Fails (λ k e. ends_ok F nodes e) edges k → EndMissing nodes edges k
  fails_end k h =
      let f = h.is_false in
      record {
        edge = h.which;
        stands = h.stands;
        wrong =
            by_option (conclusion_at nodes h.which.source)
            (λ n. inl n)
            (λ a e. inr (by_option (premise_at nodes h.which.target)
            (λ n. inl n)
            (λ b g. inr (let c : ltb h.which.source.node h.which.target.node ≡ false = rw (e, g) at f in
            omega (arith, leb_gt (suc h.which.source.node) h.which.target.node c)))));
      }

  pub end_fails : (k : ℕ) → EndMissing nodes edges k → Fails (λ k e. ends_ok F nodes e) edges k
  end_fails k h = record {
    which = h.edge;
    stands = h.stands;
    is_false =
        ⊎_elim
        (λ n. rw n)
        (λ w. ⊎_elim
        (λ n. rw n (and-false (is_some (conclusion_at nodes h.edge.source))))
        (λ l. rw (gt_leb (suc h.edge.source.node) h.edge.target.node (omega arith))
        (two_false (is_some (conclusion_at nodes h.edge.source)) (is_some (premise_at nodes h.edge.target))))
        w)
        h.wrong;
  }

  abbrev pub ends_pass : Pass
  ends_pass = restated (least_pass 10 (λ k e. ends_ok F nodes e) edges) (EndMissing nodes edges) fails_end end_fails

  -- 11.
  disagree : (o p : Option Fact) → agree F o p ≡ false → (f : Fact) × (g : Fact) × (o ≡ Some f) × (p ≡ Some g) × (same f g ≡ false)
  disagree None p h = true_false true refl h
  disagree (Some f) None h = true_false true refl h
  disagree (Some f) (Some g) h = (f, g, refl, refl, h)

  pub fails_facts : (k : ℕ) → Fails (λ k e. facts_ok F nodes e) edges k → FactsDiffer (Tested F) linear nodes edges k
  fails_facts k h =
      let (from, to, p, q, d) = disagree (conclusion_at nodes h.which.source) (premise_at nodes h.which.target) h.is_false in
      record { edge = h.which; stands = h.stands; from = from; to = to; has_source = p; has_target = q; differ = λ t. true_false (same from to) t d }

  abbrev pub facts_pass : Pass
  facts_pass = restated (least_pass 11 (λ k e. facts_ok F nodes e) edges) (FactsDiffer (Tested F) linear nodes edges) fails_facts
      (λ k h. record { which = h.edge; stands = h.stands; is_false = rw (h.has_source, h.has_target) (not_true (same h.from h.to) h.differ) })

  -- 12.
  abbrev pub premises_pass : Pass
  premises_pass = restated (part_pass (λ x. x.premises) (one_into F edges) nodes 12) (NotOneEdge nodes edges)
      (λ k h. record { index = h.index; fact = h.fact; stands = h.stands; wrong = λ e. let f = h.is_false in true_false true refl (rw e at f) })
      (λ k h. record { index = h.index; fact = h.fact; stands = h.stands; is_false = not_true _ (λ t. h.wrong (eqb_eq _ 1 t)) })

  -- 13.
  pub fails_used : (k : ℕ) → FactFails (λ x. x.conclusions) (one_out F edges) nodes k → UsedTwice nodes edges linear k
  fails_used k h =
      let f = h.is_false in
      by_bool (linear h.fact)
      (λ l.
      let c : leb (out_of (record { node = k; index = h.index }) edges) 1 ≡ false = rw l at f in
      record { index = h.index; fact = h.fact; stands = h.stands; is_linear_lem = l; twice = leb_gt (out_of (record { node = k; index = h.index }) edges) 1 c })
      (λ l. true_false true refl (rw l at f))

  abbrev pub conclusions_pass : Pass
  conclusions_pass = restated (part_pass (λ x. x.conclusions) (one_out F edges) nodes 13) (UsedTwice nodes edges linear) fails_used
      (λ k h. record {
        index = h.index;
        fact = h.fact;
        stands = h.stands;
        is_false = rw h.is_linear_lem
            (gt_leb (out_of (record { node = k; index = h.index }) edges) 1 h.twice);
      })

  -- The passes of a graph, in the table's order.
  abbrev pub graph_passes : List Pass
  graph_passes = name_pass nodes ∷ ends_pass ∷ facts_pass ∷ premises_pass ∷ conclusions_pass ∷ []
