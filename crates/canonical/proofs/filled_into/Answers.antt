-- The invariant is that what is written and the filled-in bytes of the terms left are the filled-in bytes of all; each turn reads a byte at least.
use Rattle.canonical.proofs.Plain.{walk_first, walk_asks, walk_next, walk_done}
use native.Mathlib.Omega.{arith}
use Rattle.canonical.proofs.filled_into.Goals as goal

pub loop-left-init : goal.loop-left-init
loop-left-init c =
    walk_first _ _ _ _ _ _ _ _

pub put_symbol-more-requires : goal.put_symbol-more-requires
put_symbol-more-requires c = (
  c.loop-left-test.true,
  walk_asks _ _ _ _ _ _ _ _ _ _ _ _ c.loop-left.invariant
      c.requires,
)

pub loop-left-smaller : goal.loop-left-smaller
loop-left-smaller c =
    omega (arith, c.put_symbol-more.ensures.0, c.put_symbol-more.ensures.1)

pub loop-left-preserved : goal.loop-left-preserved
loop-left-preserved c =
    walk_next _ _ _ _ _ _ _ _ _ _ _ _ c.loop-left.invariant _ _ _ _ c.put_symbol-more.auto.out
    c.put_symbol-more.ensures.2

pub shape_of-out : goal.shape_of-out
shape_of-out c =
    c.loop-left.invariant.long

pub returns : goal.returns
returns c =
    walk_done _ _ _ _ _ _ _ _ _ _ _ _ c.loop-left.invariant (omega (arith, c.loop-left-test.false))
