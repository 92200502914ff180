-- The invariant is that no entry from i up to j stands on the side.
use native.Mathlib.Omega.{arith}
use Rattle.product.proofs.RisePaths.{rises_asks, next_here, next_more, next_end}
use Rattle.product.proofs.next_row.Goals as goal

pub loop-j-init : goal.loop-j-init
loop-j-init c =
    (omega arith, λ k h g. absurd (omega arith))

pub rises-requires : goal.rises-requires
rises-requires c =
    rises_asks c.args.entries.now 0 c.args.minus c.requires.1 _ (omega arith)

pub returns-then-rises-gt0 : goal.returns-then-rises-gt0
returns-then-rises-gt0 c =
    next_here c.args.entries.now c.args.i c.args.minus c.requires.1 _ (omega arith) _ c.rises.ensures c.loop-j.invariant.0 c.loop-j.invariant.1
    c.if-rises-gt0.true

pub loop-j-preserved : goal.loop-j-preserved
loop-j-preserved c = (
  omega arith,
  next_more c.args.entries.now c.args.i c.args.minus c.requires.1 _ (omega arith) _ c.rises.ensures c.loop-j.invariant.0 c.loop-j.invariant.1
      c.if-rises-gt0.false,
)

pub returns : goal.returns
returns c =
    next_end c.args.entries.now c.args.i c.args.minus c.requires.1 c.requires.0 (λ k h g. c.loop-j.invariant.1 k h (omega arith))
