-- The invariant is that the first j terms agree.
use Rattle.judge.specs.Bindings.Tests.{all_step, all_stops}
use Rattle.judge.specs.Bindings.{value, is_new, all_up}
use Rattle.std.proofs.Common.{◌≡◌, ◌||◌, ◌+◌, get_or, eqb, arith, ap, ap₂, ℕ, Bool}
use mathlib.Core.Path.{refl, sym, ◌∙◌}
use Rattle.judge.proofs.matching.agree.Goals as goal

pub loop-j-init : goal.loop-j-init
loop-j-init c = refl

pub returns-then-not-same : goal.returns-then-not-same
returns-then-not-same c =
    let T : ℕ → Bool = λ i. is_new c.args.n (get_or c.args.fact.now.codes i 0)
    || eqb (value c.args.base c.args.values.now (get_or c.args.fact.now.codes i 0)) (get_or c.args.classes.now (c.args.p + i) 0) in
    sym (all_stops T c.args.fact.now.count c.loop-j.j c.loop-j-test.true
    (sym (ap₂ ◌||◌ c.is_new.ensures (ap (λ (v : ℕ). eqb v (get_or c.args.classes.now (c.args.p + c.loop-j.j) 0)) c.class_of-v.ensures))
    ∙ c.if-not-same.true))

pub loop-j-preserved : goal.loop-j-preserved
loop-j-preserved c =
    let T : ℕ → Bool = λ i. is_new c.args.n (get_or c.args.fact.now.codes i 0)
    || eqb (value c.args.base c.args.values.now (get_or c.args.fact.now.codes i 0)) (get_or c.args.classes.now (c.args.p + i) 0) in
    all_step T c.loop-j.j c.loop-j.invariant
    (sym (ap₂ ◌||◌ c.is_new.ensures (ap (λ (v : ℕ). eqb v (get_or c.args.classes.now (c.args.p + c.loop-j.j) 0)) c.class_of-v.ensures))
    ∙ c.if-not-same.false)

pub returns : goal.returns
returns c =
    let z : c.loop-j.j ≡ c.args.fact.now.count = omega arith in
    sym c.loop-j.invariant ∙ ap (all_up (λ i. is_new c.args.n (get_or c.args.fact.now.codes i 0)
    || eqb (value c.args.base c.args.values.now (get_or c.args.fact.now.codes i 0)) (get_or c.args.classes.now (c.args.p + i) 0))) z
