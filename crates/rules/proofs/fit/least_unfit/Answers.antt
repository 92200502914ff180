-- The invariant is that none of the first j rules is unfit, so the first that rule_fits denies is the least.
use Rattle.rules.specs.Fit.Laws.{unfit, found, found_next, placed_fits}
use Rattle.lists.specs.Below.{least_none, least_more, least_hit, least}
use mathlib.Core.Path.{◌≡◌, ap, sym, ◌∙◌}
use native.Mathlib.Omega.{arith}
use lib.ListN.{length}
use mathlib.Core.Bool.{not}
use Rattle.rules.proofs.fit.least_unfit.Goals as goal

pub loop-j-init : goal.loop-j-init
loop-j-init c =
    λ rs h. least_none _

pub returns-then-not-rule_fits : goal.returns-then-not-rule_fits
returns-then-not-rule_fits c =
    λ rs h. sym (found_next c.loop-j.j) ∙ sym (ap found (least_hit (unfit rs) (length c.args.places.now) c.loop-j.j (c.loop-j.invariant rs h)
    (sym (placed_fits c.args.text.now.file.now c.args.text.now.arities.now c.args.text.now.ars.now c.args.places.now (length c.args.places.now) c.loop-j.j _ rs h
    c.loop-j-test.true c.rule_fits.ensures) ∙ ap not c.if-not-rule_fits.true) c.loop-j-test.true))

pub loop-j-preserved : goal.loop-j-preserved
loop-j-preserved c =
    λ rs h. least_more (unfit rs) c.loop-j.j (c.loop-j.invariant rs h)
    (sym (placed_fits c.args.text.now.file.now c.args.text.now.arities.now c.args.text.now.ars.now c.args.places.now (length c.args.places.now) c.loop-j.j _ rs h
    c.loop-j-test.true c.rule_fits.ensures) ∙ ap not c.if-not-rule_fits.false)

pub returns : goal.returns
returns c =
    λ rs h.
    let m : c.loop-j.j ≡ (length c.args.places.now) = omega arith in
    sym (ap found (ap (least (unfit rs)) (sym m) ∙ c.loop-j.invariant rs h))
