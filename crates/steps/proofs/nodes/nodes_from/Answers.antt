-- The invariant is that j nodes are read up to i into their rows; a fault or an unknown rule there is that of the whole list.
use Rattle.steps.specs.Nodes.Filling.{passed_none, passed_more, passed_broken, passed_unknown, passed_all}
use Rattle.std.proofs.Common.{Err}
use mathlib.Core.Path.{◌≡◌, ap, refl, ◌∙◌}
use native.Mathlib.Omega.{arith}
use Rattle.steps.proofs.nodes.nodes_from.Goals as goal

pub loop-j-init : goal.loop-j-init
loop-j-init c =
    (refl, λ P f. passed_none P _ _ _ _)

pub loop-j-preserved : goal.loop-j-preserved
loop-j-preserved c = (
  omega (arith, c.read_node.auto, c.loop-j.invariant.0),
  λ P f. passed_more P _ _ _ _ _ _ _ (c.loop-j.invariant.1 P f) _ _ c.in-Ok.is (c.read_node.ensures P f),
)

pub returns-in-Err-Broken : goal.returns-in-Err-Broken
returns-in-Err-Broken c =
    λ P f. passed_broken P _ _ _ _ _ _ _ (c.loop-j.invariant.1 P f) _ c.loop-j-test.true (c.read_node.ensures P f)
    (c.in-Err-Broken.is ∙ ap Err c.in-Err-Broken.field-0-is)

pub returns-in-Err-NoRule : goal.returns-in-Err-NoRule
returns-in-Err-NoRule c =
    λ P f. passed_unknown P _ _ _ _ _ _ _ (c.loop-j.invariant.1 P f) _ c.loop-j-test.true (c.read_node.ensures P f)
    (c.in-Err-NoRule.is ∙ ap Err c.in-Err-NoRule.field-0-is)

pub returns : goal.returns
returns c =
    let m : c.loop-j.j ≡ c.args.n = omega (arith, c.loop-j-test.false, c.loop-j.auto.j-end) in
    λ P f. passed_all P _ _ _ _ _ _ _ (c.loop-j.invariant.1 P f) m (omega (arith, c.loop-j.invariant.0, c.requires.3))
