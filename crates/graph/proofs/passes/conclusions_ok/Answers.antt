-- The invariant is that the first i conclusions are free or used once at most; the first that is not makes it false.
use native.Mathlib.Omega.{arith}
use lib.ListN.{length}
use mathlib.Core.Path.{◌≡◌, sym, ◌∙◌}
use Prim.Native.Nat.{◌<◌}
use Rattle.steps.specs.Facts.{facts_of}
use Rattle.protocol.specs.Figures.{conclusion_list}
use Rattle.lists.specs.Below.{all_none, all_more}
use Rattle.graph.specs.Passes.{few, free_at, conclusions_by, loop_false, loop_true}
use Rattle.graph.proofs.passes.conclusions_ok.Goals as goal

pub fact_count-count-requires : goal.fact_count-count-requires
fact_count-count-requires c =
    (c.requires.0, omega arith)

pub overflow_mul-first : goal.overflow_mul-first
overflow_mul-first c =
    let (s, P, x, h) = c.requires.0 in omega (arith, h.few)

pub loop-i-init : goal.loop-i-init
loop-i-init c =
    λ s P x h. all_none (free_at P x c.args.uses.now c.args.j)

pub overflow_add-first : goal.overflow_add-first
overflow_add-first c =
    let (s, P, x, h) = c.requires.0 in omega
    (arith, h.few, few h conclusion_list, c.fact_count-count.ensures s P x h, c.loop-i-test.true)

pub bounds-uses-first : goal.bounds-uses-first
bounds-uses-first c =
    let (s, P, x, h) = c.requires.0 in omega (arith, h.few, few h conclusion_list, c.fact_count-count.ensures s P x h, c.loop-i-test.true, c.requires.1)

pub one_out-requires : goal.one_out-requires
one_out-requires c =
    let (s, P, x, h) = c.requires.0 in (s, P, x, record { node = h; listed = omega (arith, c.fact_count-count.ensures s P x h, c.loop-i-test.true) })

pub loop-i-preserved : goal.loop-i-preserved
loop-i-preserved c =
    λ s P x h.
    let l : c.loop-i.i < length (facts_of P conclusion_list x) = omega (arith, c.fact_count-count.ensures s P x h, c.loop-i-test.true) in
    all_more (free_at P x c.args.uses.now c.args.j) c.loop-i.i (c.loop-i.invariant s P x h)
    (sym (c.one_out.ensures s P x (record { node = h; listed = l })) ∙ c.if-not-one_out.false)

pub returns-then-not-one_out : goal.returns-then-not-one_out
returns-then-not-one_out c =
    λ s P x h es counts.
    let l : c.loop-i.i < length (facts_of P conclusion_list x) = omega (arith, c.fact_count-count.ensures s P x h, c.loop-i-test.true) in
    loop_false (free_at P x c.args.uses.now c.args.j) (conclusions_by h c.args.uses.now es c.requires.1 counts) c.loop-i.i
    (sym (c.one_out.ensures s P x (record { node = h; listed = l })) ∙ c.if-not-one_out.true) l

pub returns : goal.returns
returns c =
    λ s P x h es counts.
    let e : c.loop-i.i ≡ length (facts_of P conclusion_list x) = omega (
      arith,
      c.fact_count-count.ensures s P x h,
      c.loop-i-test.false,
    ) in
    loop_true (free_at P x c.args.uses.now c.args.j) (conclusions_by h c.args.uses.now es c.requires.1 counts) c.loop-i.i
    (c.loop-i.invariant s P x h) e
