-- The invariant is that what is left has the solutions that the whole has; each turn reads a byte of the patterns at least.
use native.Mathlib.Omega.{arith}
use Rattle.canonical.proofs.Matching.{walked_first, walked_asks, walked_ahead, walked_next, walked_none, walked_done}
use Rattle.canonical.proofs.fits.Goals as goal

pub loop-i-init : goal.loop-i-init
loop-i-init c =
    walked_first _ _ _ _ _ _

pub step-requires : goal.step-requires
step-requires c =
    (c.loop-i-test.true, walked_asks _ _ _ _ _ _ _ _ _ c.loop-i.invariant c.requires)

pub loop-i-smaller : goal.loop-i-smaller
loop-i-smaller c =
    let a = walked_ahead _ _ _ _ _ _ _ _ _ c.loop-i.invariant _ _ c.step.ensures _ _ c.in-Some.is c.requires in
    omega (arith, a, c.loop-i-test.true)

pub loop-i-preserved : goal.loop-i-preserved
loop-i-preserved c =
    walked_next _ _ _ _ _ _ _ _ _ c.loop-i.invariant _ _ c.step.ensures _ _ c.in-Some.is

pub returns-in-None : goal.returns-in-None
returns-in-None c =
    walked_none _ _ _ _ _ _ _ _ _ c.loop-i.invariant _ _ c.step.ensures
    c.in-None.is

pub returns : goal.returns
returns c =
    walked_done _ _ _ _ _ _ _ _ _ c.loop-i.invariant (omega (arith, c.loop-i-test.false))
