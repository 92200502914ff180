-- The counts of the node's premises are looked at: each is 1, or one is not.
use Rattle.std.proofs.Common.{rules, tests, arith, ◌≡◌, ℕ, ◌+◌, ◌-◌, ◌*◌, take, drop, length, ap, ◌∙◌, length-take-le, length-drop}
use Rattle.std.proofs.lemmas.Iterator.{cases_from_all, YieldsList-from_slice}
use Rattle.lists.specs.Below.{all_below}
use Rattle.steps.specs.Facts.{facts_of}
use Rattle.protocol.specs.Figures.{premise_list, most_facts}
use Rattle.graph.specs.Passes.{few, fed_at, counts_of, all_fed, premises_by}
use Rattle.graph.proofs.passes.premises_ok.Goals as goal

pub overflow_add-first : goal.overflow_add-first
overflow_add-first c =
    let (s, P, x, h) = c.requires.0 in omega (arith, h.few, few h premise_list, c.fact_count-count.ensures s P x h)

pub slice_bounds-iter-end : goal.slice_bounds-iter-end
slice_bounds-iter-end c =
    let (s, P, x, h) = c.requires.0 in omega (arith, h.few, few h premise_list, c.fact_count-count.ensures s P x h, c.requires.1)

pub returns : goal.returns
returns c =
    λ s P x h es counts.
    let uses = c.args.uses.now in
    let count = c.fact_count-count.result in
    let is : count ≡ length (facts_of P premise_list x) = c.fact_count-count.ensures s P x h in
    let long : length (counts_of uses c.args.j count) ≡ count = length-take-le count _ (omega (arith, length-drop (most_facts * c.args.j) uses, few h premise_list, is, c.requires.1)) in
    let part : most_facts * c.args.j + count - most_facts * c.args.j ≡ count = omega arith in
    all_fed uses c.args.j count _ long
    (cases_from_all _ _ _ (λ v. v ≡ 1) (λ v. v ≡ 1 → ⊥) c.all.ensures.ran (YieldsList-from_slice (counts_of uses c.args.j count) (c.iter.ensures.rest ∙ ap (λ (k : ℕ). take k (drop (most_facts * c.args.j) uses)) part))
    (λ v q k. search (rules, tests)) (λ v q k. search (rules, tests)))
    ∙ ap (all_below (fed_at uses c.args.j)) is
    ∙ premises_by h uses es c.requires.1 counts
