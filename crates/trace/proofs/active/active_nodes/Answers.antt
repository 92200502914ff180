-- The invariant is that `active` counts those of the first k nodes; a node has an action exactly if the next one's begin later.
use borrow.Author.Rules.{rules}
use native.Mathlib.Omega.{arith}
use lib.ListN.{length}
use mathlib.Core.Path.{refl, ◌∙◌}
use Prim.Native.Nat.{◌+◌, ◌<◌}
use Rattle.trace.specs.Active.Laws.{active_more, active_same, active_all}
use Rattle.trace.proofs.active.active_nodes.Goals as goal
use Rattle.trace.proofs.active.active_nodes.Goals.{then-starts-k, else-starts-k}

pub loop-k-init : goal.loop-k-init
loop-k-init c =
    (omega arith, λ P xs b e. refl)

pub offset_bounds-starts-k : goal.offset_bounds-starts-k
offset_bounds-starts-k c =
    omega (arith, c.requires, c.loop-k-test.true, c.ranges.n.fits)

pub bounds-starts-k : goal.bounds-starts-k
bounds-starts-k c =
    omega (arith, c.requires, c.loop-k-test.true)

pub offset_bounds-starts-k-in-loop-k : goal.offset_bounds-starts-k-in-loop-k
offset_bounds-starts-k-in-loop-k c =
    let h : c.loop-k.k + 1 < length c.args.starts.now = omega (arith, c.requires, c.loop-k-test.true) in
    search rules

pub bounds-starts-k-in-loop-k : goal.bounds-starts-k-in-loop-k
bounds-starts-k-in-loop-k c =
    omega (arith, c.requires, c.loop-k-test.true)

pub overflow_add-active : goal.overflow_add-active
overflow_add-active c =
    omega (arith, c.loop-k.invariant.0, c.loop-k-test.true, c.ranges.n.fits)

pub loop-k-preserved : goal.loop-k-preserved
loop-k-preserved c = (
  elim c.if-starts-k.branch [
    | then-starts-k w ↦ omega (arith, w.active-is, c.loop-k.invariant.0)
    | else-starts-k w ↦ omega (arith, w.active-is, c.loop-k.invariant.0)
  ],
  λ P xs b e.
      let l : c.loop-k.k < length xs = omega (arith, e, c.loop-k-test.true) in
      let o = c.loop-k.invariant.1 P xs b e in
      elim c.if-starts-k.branch [
        | then-starts-k w ↦ w.active-is ∙ active_more b c.loop-k.k l _ o w.if-starts-k.true
        | else-starts-k w ↦ w.active-is ∙ active_same b c.loop-k.k l _ o (omega (arith, w.if-starts-k.false))
      ],
)

pub returns : goal.returns
returns c =
    λ P xs b e. active_all P xs c.loop-k.k _ (omega (arith, e)) (c.loop-k.invariant.1 P xs b e)
