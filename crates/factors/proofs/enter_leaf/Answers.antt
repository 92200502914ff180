-- Where the tried entry is the leaf, the leaf is found there; where it comes behind the last, it is appended; otherwise `enter` promises the same.
use native.Mathlib.Omega.{arith}
use mathlib.Core.Path.{refl, sym}
use Rattle.factors.proofs.EnterPaths.{enter_few, enter_front, enter_asks, row_fits, entered_same}
use Rattle.factors.proofs.enter_leaf.Goals as goal

pub slice_bounds-hinted-end : goal.slice_bounds-hinted-end
slice_bounds-hinted-end c =
    let f = enter_few _ _ _ _ _ c.requires.2 in omega arith

pub slice_bounds-hinted-end-2 : goal.slice_bounds-hinted-end-2
slice_bounds-hinted-end-2 c =
    sym (enter_front _ _ _ _ _ c.requires.2)

pub hinted-requires : goal.hinted-requires
hinted-requires c =
    let w = enter_asks _ _ _ _ _ c.requires.2 in (w.0, w.1, c.requires.0, c.requires.1)

pub overflow_add-entries : goal.overflow_add-entries
overflow_add-entries c =
    row_fits _ _ _ _ _ c.args.minus _ _ (rw c.in-Some.is at c.hinted.ensures) _ c.unit.ensures refl _ _ c.requires.2.2

pub returns-in-Some : goal.returns-in-Some
returns-in-Some c =
    entered_same _ _ _ _ _ c.args.minus _ _ (rw c.in-Some.is at c.hinted.ensures) _ c.unit.ensures refl

pub slice_bounds-is_behind-end : goal.slice_bounds-is_behind-end
slice_bounds-is_behind-end c =
    let f = enter_few _ _ _ _ _ c.requires.2 in omega arith

pub slice_bounds-is_behind-end-2 : goal.slice_bounds-is_behind-end-2
slice_bounds-is_behind-end-2 c =
    sym (enter_front _ _ _ _ _ c.requires.2)

pub is_behind-requires : goal.is_behind-requires
is_behind-requires c =
    let w = enter_asks _ _ _ _ _ c.requires.2 in (w.0, w.1, c.requires.0, c.requires.1)

pub append-requires : goal.append-requires
append-requires c =
    (c.requires.0, c.requires.1, c.requires.2, rw (enter_front _ _ _ _ _ c.requires.2) at (c.is_behind.ensures c.if-is_behind.true))
