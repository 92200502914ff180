-- The invariant is that the first n rows are entered and what lies before the places is as it was; each turn adds a row.
use Rattle.prepared.specs.Filling.Numbers.{rows_none, rows_more, rows_end}
use native.Mathlib.Omega.{arith}
use mathlib.Core.Path.{refl}
use Rattle.prepared.proofs.filling.enter_rules.Goals as goal

pub loop-n-init : goal.loop-n-init
loop-n-init c =
    (refl, λ f. rows_none f _)

pub loop-n-preserved : goal.loop-n-preserved
loop-n-preserved c = (
  omega (arith, c.enter_rule.auto, c.loop-n.invariant.0),
  λ f. rows_more f _ _ _ _ c.loop-n-test.true
      (c.loop-n.invariant.1 f) (c.enter_rule.ensures f),
)

pub returns : goal.returns
returns c =
    λ f. rows_end f _ _ _ (omega arith) (c.loop-n.invariant.1 f)
