-- The invariant is that the sum so far and the weight of the pending terms are the term's, which ends where they end; a sum past the limit only grows.
use Rattle.steps.specs.Values.Weights.{going_starts, going_ends, going_long, going_more, going_fault, size_in}
use mathlib.Core.Path.{sym, ◌∙◌}
use native.Mathlib.Omega.{arith}
use Rattle.steps.proofs.sizes.term_small.Goals as goal

pub loop-pending-init : goal.loop-pending-init
loop-pending-init c =
    (omega arith, omega arith, λ t e h. going_starts _ _ _ t e _ h)

pub returns-then-sum-gt-MOST_FILLED_IN : goal.returns-then-sum-gt-MOST_FILLED_IN
returns-then-sum-gt-MOST_FILLED_IN c =
    λ t e h. going_long _ _ (size_in c.args.sizes.now) t e _ _ _ (going_more _ _ (λ j. (c.type_inv.file j).fits)
    (size_in c.args.sizes.now) t e _ _ _ _ _ _ c.loop-pending-test.true (c.loop-pending.invariant.2 t e h)
    (sym c.one_weight.ensures ∙ c.in_ok-a.was)).going c.if-sum-gt-MOST_FILLED_IN.true

pub overflow_add-pending : goal.overflow_add-pending
overflow_add-pending c =
    let q = c.requires.0 in
    let x = going_more _ _ (λ j. (c.type_inv.file j).fits) (size_in c.args.sizes.now) q.0 q.1 _ _ _ _ _ _ c.loop-pending-test.true
    (c.loop-pending.invariant.2 q.0 q.1 q.2) (sym c.one_weight.ensures ∙ c.in_ok-a.was) in
    omega (arith, x.ahead, x.inside, c.loop-pending.invariant.0)

pub loop-pending-smaller : goal.loop-pending-smaller
loop-pending-smaller c =
    let q = c.requires.0 in
    let x = going_more _ _ (λ j. (c.type_inv.file j).fits) (size_in c.args.sizes.now) q.0 q.1 _ _ _ _ _ _ c.loop-pending-test.true
    (c.loop-pending.invariant.2 q.0 q.1 q.2) (sym c.one_weight.ensures ∙ c.in_ok-a.was) in
    omega (arith, x.ahead, x.inside)

pub loop-pending-preserved : goal.loop-pending-preserved
loop-pending-preserved c =
    let q = c.requires.0 in
    let x = going_more _ _ (λ j. (c.type_inv.file j).fits) (size_in c.args.sizes.now) q.0 q.1 _ _ _ _ _ _ c.loop-pending-test.true
    (c.loop-pending.invariant.2 q.0 q.1 q.2) (sym c.one_weight.ensures ∙ c.in_ok-a.was) in (
      omega (arith, x.ahead, x.inside, c.loop-pending.invariant.0),
      omega (arith, c.if-sum-gt-MOST_FILLED_IN.false),
      λ t e h. (going_more _ _
          (λ j. (c.type_inv.file j).fits) (size_in c.args.sizes.now) t e _ _ _ _ _ _ c.loop-pending-test.true (c.loop-pending.invariant.2 t e h)
          (sym c.one_weight.ensures ∙ c.in_ok-a.was)).going,
    )

pub returns-in_err-a : goal.returns-in_err-a
returns-in_err-a c =
    rw c.from_residual.ensures
    (λ t e h. going_fault _ _ (λ j. (c.type_inv.file j).fits) (size_in c.args.sizes.now) t e _ _ _ c.loop-pending-test.true
    (c.loop-pending.invariant.2 t e h) (sym c.one_weight.ensures ∙ c.in_err-a.was))

pub returns : goal.returns
returns c =
    λ t e h. going_ends _ _ (size_in c.args.sizes.now) t e _ _ _ (omega (arith, c.loop-pending-test.false))
    c.loop-pending.invariant.1 (c.loop-pending.invariant.2 t e h)
