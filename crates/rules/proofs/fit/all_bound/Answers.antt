-- The invariant is that the first j variables are bound; the first that is not ends it with false.
use Rattle.lists.specs.Below.{all_none, all_more, all_stop, all_below}
use Rattle.rules.specs.Fit.{bound}
use mathlib.Core.Path.{◌≡◌, ap, sym, ◌∙◌}
use native.Mathlib.Omega.{arith}
use Rattle.rules.proofs.fit.all_bound.Goals as goal

pub loop-j-init : goal.loop-j-init
loop-j-init c =
    λ r h l. all_none _

pub returns-then-not-is_bound : goal.returns-then-not-is_bound
returns-then-not-is_bound c =
    λ r h l. sym (all_stop (bound r) c.args.n c.loop-j.j (sym (c.is_bound.ensures r h (omega arith)) ∙ c.if-not-is_bound.true)
    c.loop-j-test.true)

pub loop-j-preserved : goal.loop-j-preserved
loop-j-preserved c =
    λ r h l. all_more (bound r) c.loop-j.j (c.loop-j.invariant r h l)
    (sym (c.is_bound.ensures r h (omega arith)) ∙ c.if-not-is_bound.false)

pub returns : goal.returns
returns c =
    λ r h l.
    let m : c.loop-j.j ≡ c.args.n = omega arith in
    sym (ap (all_below (bound r)) (sym m) ∙ c.loop-j.invariant r h l)
