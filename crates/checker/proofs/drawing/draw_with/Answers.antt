-- A list that is ruled good is drawn from its nodes; a refusal of it is the call's.
use native.Mathlib.Omega.{arith}
use Rattle.checker.specs.Draw.Inside.{steps_drawable, stopped_small, steps_refused}
use Rattle.checker.specs.Answer.{written_refused}
use Rattle.checker.proofs.drawing.draw_with.Goals as goal

pub draw_nodes-requires : goal.draw_nodes-requires
draw_nodes-requires c =
    let (P, i) = c.requires.0 in let (xs, d) = steps_drawable P c.args.p.now c.args.steps.now i (λ j. (c.type_inv.steps j).fits)
    c.requires.1 c.rule_steps.result _ (c.rule_steps.ensures.good P i) c.in-Ok.is in
    ((P, xs, d), c.requires.1, c.requires.3)

pub refuse-requires : goal.refuse-requires
refuse-requires c =
    let (P, i) = c.requires.0 in let b = stopped_small P c.args.p.now c.args.steps.now i (λ j. (c.type_inv.steps j).fits)
    c.requires.1 c.rule_steps.result (c.rule_steps.ensures.ruled P i) c.in-Err.is in (omega (arith, b.0), omega (arith, b.1))

pub returns-in-Ok : goal.returns-in-Ok
returns-in-Ok c =
    λ P i. let (xs, d) = steps_drawable P c.args.p.now c.args.steps.now i (λ j. (c.type_inv.steps j).fits) c.requires.1
    c.rule_steps.result _ (c.rule_steps.ensures.good P i) c.in-Ok.is in c.draw_nodes.ensures P xs d

pub returns-in-Err : goal.returns-in-Err
returns-in-Err c =
    λ P i. steps_refused P c.args.p.now c.args.steps.now i (λ j. (c.type_inv.steps j).fits) c.requires.1 c.rule_steps.result
    (c.rule_steps.ensures.ruled P i) c.in-Err.is c.args.output.now _ (written_refused c.refuse.ensures)
