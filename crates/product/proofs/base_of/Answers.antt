-- The loop goes down the tower: at each step the exp there is opened, and its exponent joins those behind.
use Rattle.product.proofs.ExponentPaths.{down_begins, down_inside, down_next, down_ends}
use mathlib.Core.Path.{sym, ◌∙◌}
use native.Mathlib.Omega.{arith}
use Rattle.product.proofs.base_of.Goals as goal

pub loop-b-init : goal.loop-b-init
loop-b-init c =
    let r = c.args in down_begins r.arities.now r.src.now r.at

pub overflow_add-b : goal.overflow_add-b
overflow_add-b c =
    let r = c.args in let h = down_inside r.arities.now r.src.now r.at _ c.loop-b.invariant c.requires in omega arith

pub loop-b-smaller : goal.loop-b-smaller
loop-b-smaller c =
    let r = c.args in let h = down_inside r.arities.now r.src.now r.at _ c.loop-b.invariant c.requires in omega arith

pub loop-b-preserved : goal.loop-b-preserved
loop-b-preserved c =
    let r = c.args in down_next r.arities.now r.src.now r.at _ c.loop-b.invariant
    (sym c.is_exp.ensures ∙ c.loop-b-test.true)

pub returns : goal.returns
returns c =
    let r = c.args in down_ends r.arities.now r.src.now r.at _ c.loop-b.invariant
    (sym c.is_exp.ensures ∙ c.loop-b-test.false)
