-- The tests decide P1 to P5, for every rule within the limits.
use Rattle.std.specs.Prelude.{ℕ, ◌<◌, List, Bool, true, false, ◌||◌, ◌&&◌, not, ◌↔◌, ◌⊎◌, ◌≡◌, refl, length, get_or, eqb}
use Rattle.std.proofs.Math.Bool.{and-eq-true_iff}
use Rattle.std.proofs.Common.{inl, inr, ap, ap₂, arith, eqb-true, eq-eqb}
use Rattle.lists.specs.Choice.{by_size}
use Rattle.number.specs.Groups.{number_limit}
use Rattle.lists.specs.Lists.{any_by}
use Rattle.lists.specs.All.{All}
use Rattle.term.specs.Term.{variable, fresh, InRange, Occurs}
use Rattle.lists.specs.Tests.{or_cases, or_right, not_from, not_both}
use Rattle.protocol.specs.Protocol.{Rule, list_of, premises, actions, conclusions, leaf_in}
use Rattle.protocol.specs.Protocol.Walks.{symbol_in}
use Rattle.protocol.specs.Protocol.Limits.{RuleWithin}
use Rattle.protocol.specs.Protocol.Limits.Parts.{TermWithin, FactWithin, FactsWithin}
use Rattle.rules.specs.Fit.{p1, p2, p3, stands, p45, bound, fits}
use Rattle.lists.specs.Any.{Any, some_part}
use Rattle.rules.specs.Fit.Meaning.{Occurs, OccursIn, Bound, Fit}
use Rattle.lists.specs.All.Laws.{all_map}
use Rattle.lists.specs.Below.{below_to, below_from}
use Rattle.rules.specs.Fit.Meaning.Leaves.{lists_asked, asked_lists, variable_occurs, occurs_variable, among_asked, asked_two, asked_one}

module _ (arities ars : List ℕ) (r : Rule) (w : RuleWithin arities ars r) where
  ranges : All (All (λ f. All InRange f.terms)) r.lists
  ranges =
      all_map (FactsWithin arities ars) (All (λ f. All InRange f.terms))
      (λ fs h. all_map (FactWithin arities ars) (λ f. All InRange f.terms)
      (λ f h. all_map (TermWithin arities) InRange (λ t h. h.range) f.terms h.each) fs h.each)
      r.lists w.laid.each

  -- a variable that stands in a list of the rule is declared
  in_sorts : (v list : ℕ) → OccursIn variable v (list_of list r) → v < length r.sorts
  in_sorts v list s =
      by_size v (length r.sorts) (λ l. l)
      (λ l. absurd (not_both (any_by (any_by (leaf_in 0 (length r.sorts) number_limit)) r.lists) w.bound
      (asked_lists variable (length r.sorts) v r.lists ranges l
      (some_part (λ f. Any (Occurs variable v) f.terms) r.lists list s))))

  -- variable v stands in no conclusion and in no action, by the tests
  abbrev nowhere : ℕ → Bool
  nowhere v = not (stands v (conclusions r)) && not (stands v (actions r))

  bound_to : (v : ℕ) → bound r v ≡ true → OccursIn variable v (conclusions r) ⊎ OccursIn variable v (actions r) → Bound r v
  bound_to v h s =
      elim (or_cases (eqb (get_or r.sorts v 0) 2) (stands v (premises r) || nowhere v) h) [
        | inl e ↦ inr (eqb-true (get_or r.sorts v 0) 2 e)
        | inr e ↦
            elim (or_cases (stands v (premises r)) (nowhere v) e) [
              | inl e ↦ inl (variable_occurs v (premises r) e)
              | inr e ↦
                  let n = (and-eq-true_iff (not (stands v (conclusions r))) (not (stands v (actions r)))).0 e in
                  elim s [
                    | inl s ↦ absurd (not_both (stands v (conclusions r)) n.0 (occurs_variable v (conclusions r) s))
                    | inr s ↦ absurd (not_both (stands v (actions r)) n.1 (occurs_variable v (actions r) s))
                  ]
            ]
      ]

  bound_by : (v : ℕ) → Bound r v → bound r v ≡ true
  bound_by v (inl s) =
      or_right (eqb (get_or r.sorts v 0) 2) _ (ap (λ (b : Bool). b || nowhere v) (occurs_variable v (premises r) s))
  bound_by v (inr e) =
      ap (λ (b : Bool). b || (stands v (premises r) || nowhere v)) (eq-eqb (get_or r.sorts v 0) 2 e)

  bound_from : (v : ℕ) → (OccursIn variable v (conclusions r) → Bound r v) → (OccursIn variable v (actions r) → Bound r v) → bound r v ≡ true
  bound_from v f g = by_tests (stands v (conclusions r)) (stands v (actions r)) refl refl
    where
      by_tests :
          (c d : Bool) → stands v (conclusions r) ≡ c → stands v (actions r) ≡ d → bound r v ≡ true
      by_tests true d h k = bound_by v (f (variable_occurs v (conclusions r) h))
      by_tests false true h k = bound_by v (g (variable_occurs v (actions r) k))
      by_tests false false h k =
          or_right (eqb (get_or r.sorts v 0) 2) _
          (or_right (stands v (premises r)) _ (ap₂ (λ (x y : Bool). not x && not y) h k))

  fit_to : fits r ≡ true → Fit r
  fit_to h =
      let a = (and-eq-true_iff (p1 r) (p2 r && (p3 r && p45 r))).0 h in
      let b = (and-eq-true_iff (p2 r) (p3 r && p45 r)).0 a.1 in
      let c = (and-eq-true_iff (p3 r) (p45 r)).0 b.1 in
      let d = (and-eq-true_iff (not (any_by (symbol_in 0 2) (conclusions r))) (not (any_by (symbol_in 3 4) (conclusions r)))).0 c.0 in
      record {
        p1 = λ n s. not_both (any_by (any_by (leaf_in 2 0 number_limit)) r.lists) a.0 (asked_lists fresh 0 n r.lists ranges (omega arith) s);
        p2 = λ s. not_both (any_by (symbol_in 2 4) (premises r)) b.0
            (elim s [
              | inl s ↦ among_asked 2 4 3 (premises r) (omega arith) (omega arith) s
              | inr s ↦ among_asked 2 4 2 (premises r) (omega arith) (omega arith)
                  s
            ]);
        p3 = λ s. elim s [
          | inl s ↦ not_both (any_by (symbol_in 3 4) (conclusions r)) d.1 (among_asked 3 4 3 (conclusions r) (omega arith) (omega arith) s)
          | inr s ↦ not_both (any_by (symbol_in 0 2) (conclusions r)) d.0
              (elim s [
                | inl s ↦ among_asked 0 2 1 (conclusions r) (omega arith) (omega arith) s
                | inr s ↦ among_asked 0 2 0 (conclusions r) (omega arith)
                    (omega arith) s
              ])
        ];
        p4 = λ v s. bound_to v (below_to (bound r) (length r.sorts) c.1 v (in_sorts v 2 s)) (inl s);
        p5 = λ v s. bound_to v (below_to (bound r) (length r.sorts) c.1 v (in_sorts v 1 s)) (inr s);
      }

  fit_from : Fit r → fits r ≡ true
  fit_from f =
      ap₂ ◌&&◌
      (not_from (any_by (any_by (leaf_in 2 0 number_limit)) r.lists) (λ h. let z = lists_asked fresh 0 number_limit r.lists h in f.p1 z.number z.has))
      (ap₂ ◌&&◌ (not_from (any_by (symbol_in 2 4) (premises r)) (λ h. f.p2 (asked_two 2 (premises r) h)))
      (ap₂ ◌&&◌
      (ap₂ ◌&&◌
      (not_from (any_by (symbol_in 0 2) (conclusions r)) (λ h. f.p3 (inr (asked_two 0 (conclusions r) h))))
      (not_from (any_by (symbol_in 3 4) (conclusions r)) (λ h. f.p3 (inl (asked_one 3 (conclusions r) h)))))
      (below_from (bound r) (length r.sorts) (λ v l. bound_from v (f.p4 v) (f.p5 v)))))

  -- the tests decide P1 to P5
  pub fit_exactly : (fits r ≡ true) ↔ Fit r
  fit_exactly = (fit_to, fit_from)
