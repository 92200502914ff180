-- The passes of causes 7 and 8: each finds the least node that has the cause; and neither finds one just where every node is right.
use Rattle.std.specs.Prelude.{ℕ, suc, List, Bool, true, false, ◌↔◌, ◌≡◌, refl}
use Rattle.std.specs.Prelude.{Option, Some, None}
use Rattle.std.proofs.lemmas.Option.{same_Some}
use Rattle.std.proofs.Common.{ap, sym, ◌∙◌, subst, arith}
use Rattle.std.specs.Prelude.{slice_get}
use Rattle.term.specs.Arity.{tag_arities}
use Rattle.lists.specs.Choice.{by_size}
use Rattle.lists.specs.All.{All}
use Rattle.term.specs.Term.{Term}
use Rattle.term.specs.Reader.Exact.{Good}
use Rattle.lists.specs.Tests.{by_bool, true_false, not_true}
use Rattle.lists.specs.Lists.{nth}
use Rattle.rewriting.specs.Table.{Fails, Absent, Pass}
use Rattle.rewriting.specs.Table.Passes.{restated, least_pass}
use Rattle.message.proofs.Theorems.{declared}
use Rattle.protocol.specs.Protocol.{Rule, Protocol}
use Rattle.rules.specs.Numbered.{rule_of}
use Rattle.lists.specs.All.Laws.{all_nth, nth_all}
use Rattle.steps.specs.Nodes.{Node, NodeWithin}
use Rattle.steps.specs.Values.{ValueAt, TermOf, most_filled_in, filled_symbols, NodeRight, WrongValue, TermLong, value_rows}
use Rattle.steps.specs.Values.Tests.{value_ok, values_ok, rule_ok, of_rule, node_values_ok, node_terms_ok}
use Rattle.steps.specs.Values.Laws.{value_decides, values_fail, fail_values, terms_fail, fail_terms}

-- of the rule, where there is one
cut_rule : {C : Type 0} (q : Rule → Bool) (o : Option Rule) → of_rule q o ≡ false → ((u : Rule) → o ≡ Some u → q u ≡ false → C) → C
cut_rule q None h k = true_false true refl h
cut_rule q (Some u) h k = k u refl h

module _ (p : Protocol) (xs : List Node) where
  abbrev slots_of : List ℕ
  slots_of = tag_arities p.functions

  -- ── 8 ──
  pub fails_long : (k : ℕ) → Fails (λ j x. node_terms_ok p x) xs k → TermLong p xs k
  fails_long k h =
      cut_rule (rule_ok h.which.values) (rule_of p h.which.rule) h.is_false (λ u e f.
      let b = terms_fail h.which.values u f in
      record { node = h.which; is = u; stands = h.stands; known = e; term = b.term; there = b.there; long = b.long })

  pub long_fails : (k : ℕ) → TermLong p xs k → Fails (λ j x. node_terms_ok p x) xs k
  long_fails k h = record {
    which = h.node;
    stands = h.stands;
    is_false = ap (of_rule (rule_ok h.node.values)) h.known ∙ fail_terms h.node.values h.is h.term h.there h.long;
  }

  abbrev pub term_pass : Pass
  term_pass = restated (least_pass 8 (λ k x. node_terms_ok p x) xs) (TermLong p xs) fails_long long_fails

  -- ── 7: the values are well formed ──
  module _ (within : All (NodeWithin p) xs) where
    good_at : (k : ℕ) (x : Node) → nth xs k ≡ Some x → (i : ℕ) (v : Term) → slice_get x.values i ≡ Some v → Good slots_of v
    good_at k x h i v e = all_nth (Good slots_of) x.values (all_nth (NodeWithin p) xs within k x h).each (suc i) v e

    pub fails_wrong : (k : ℕ) → Fails (λ j x. node_values_ok p x) xs k → WrongValue p xs k
    fails_wrong k h =
        cut_rule (λ u. values_ok u.sorts h.which.values) (rule_of p h.which.rule) h.is_false (λ u e f.
        let b = values_fail u.sorts h.which.values f in
        record {
          node = h.which;
          is = u;
          stands = h.stands;
          known = e;
          variable_is = b.index;
          sort = b.sort;
          value = b.value;
          there = record { sorted = b.sorted; valued = b.valued };
          wrong = λ g.
              let d = value_decides slots_of (declared p.functions) b.sort b.value
              (good_at k h.which h.stands b.index b.value b.valued) in
              true_false (value_ok b.sort b.value) (d.1 g) b.is_false;
        })

    pub wrong_fails : (k : ℕ) → WrongValue p xs k → Fails (λ j x. node_values_ok p x) xs k
    wrong_fails k h =
        let d = value_decides slots_of (declared p.functions) h.sort h.value
        (good_at k h.node h.stands h.variable_is h.value h.there.valued) in
        record {
          which = h.node;
          stands = h.stands;
          is_false =
              ap (of_rule (λ u. values_ok u.sorts h.node.values)) h.known
              ∙ fail_values h.is.sorts h.node.values h.variable_is h.sort h.value h.there.sorted h.there.valued
              (not_true (value_ok h.sort h.value) (λ t. h.wrong (d.0 t)));
        }

    abbrev pub value_pass : Pass
    value_pass = restated (least_pass 7 (λ k x. node_values_ok p x) xs) (WrongValue p xs) fails_wrong wrong_fails

    -- ── no node has 7 or 8 just where every node is right ──
    node_right : Absent (value_rows p xs) → (k : ℕ) (x : Node) → nth xs k ≡ Some x → NodeRight p x
    node_right a k x h =
        let w = all_nth (NodeWithin p) xs within k x h in
        record {
          is = w.is;
          known = w.known;
          fits = λ i sort v g.
              let d = value_decides slots_of (declared p.functions) sort v (good_at k x h i v g.valued) in
              by_bool (value_ok sort v)
              (λ t. d.0 t)
              (λ f. absurd (a.0 k (record {
                node = x;
                is = w.is;
                stands = h;
                known = w.known;
                variable_is = i;
                sort = sort;
                value = v;
                there = g;
                wrong = λ b. true_false (value_ok sort v) (d.1 b) f;
              })));
          small = λ t g.
              by_size most_filled_in (filled_symbols x.values t)
              (λ l. absurd (a.1.0 k (record { node = x; is = w.is; stands = h; known = w.known; term = t; there = g; long = l })))
              (λ l. l);
        }

    pub absent_right : Absent (value_rows p xs) ↔ All (NodeRight p) xs
    absent_right = (
      (λ a. nth_all (NodeRight p) xs (node_right a)),
      (λ r. (
        (λ k h.
            let n = all_nth (NodeRight p) xs r k h.node h.stands in
            let i : h.is ≡ n.is = same_Some h.is n.is (sym h.known ∙ n.known) in
            h.wrong (n.fits h.variable_is h.sort h.value (subst (λ (u : Rule). ValueAt u h.node h.variable_is h.sort h.value) i
            h.there))),
        (
          (λ k h.
              let n = all_nth (NodeRight p) xs r k h.node h.stands in
              let i : h.is ≡ n.is = same_Some h.is n.is (sym h.known ∙ n.known) in
              omega (arith, h.long, n.small h.term (subst (λ (u : Rule). TermOf u h.term) i h.there))),
          tt,
        ),
      )),
    )
