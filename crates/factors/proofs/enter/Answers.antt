-- A factor that stands in the table gains or loses one exponent; one that does not gets an entry where its bytes belong, so the entries still ascend.
use native.Mathlib.Omega.{arith}
use mathlib.Core.Path.{refl, sym}
use Prim.Native.Nat.{◌+◌, ◌-◌, ◌≤◌, ◌<◌}
use lib.ListN.{length}
use Rattle.factors.proofs.EnterPaths.{enter_few, enter_front, enter_asks, enter_fits, place_within, row_fits, entered_same, entered_new, opened, found_ok, found_err}
use Rattle.factors.proofs.enter.Goals as goal

pub slice_bounds-find_place-end : goal.slice_bounds-find_place-end
slice_bounds-find_place-end c =
    let f = enter_few _ _ _ _ _ c.requires in omega arith

pub slice_bounds-find_place-end-2 : goal.slice_bounds-find_place-end-2
slice_bounds-find_place-end-2 c =
    sym (enter_front _ _ _ _ _ c.requires)

pub find_place-requires : goal.find_place-requires
find_place-requires c =
    enter_asks _ _ _ _ _ c.requires

pub overflow_add-entries : goal.overflow_add-entries
overflow_add-entries c =
    row_fits _ _ _ _ _ c.args.minus _ _ (found_ok _ c.in-Ok.is c.find_place.ensures) _ c.unit-u.ensures refl _ _ c.requires.2

pub copy_within-requires-clause-in_bounds : goal.copy_within-requires-clause-in_bounds
copy_within-requires-clause-in_bounds c =
    let f = enter_few _ _ _ _ _ c.requires in omega arith

pub copy_within-requires-clause-dest_in_bounds : goal.copy_within-requires-clause-dest_in_bounds
copy_within-requires-clause-dest_in_bounds c =
    let f = enter_few _ _ _ _ _ c.requires in
    let w = place_within _ _ _ _ _ c.args.minus _ _ (found_err _ c.in-Err.is c.find_place.ensures) _ c.unit-u.ensures c.requires in
    let q : c.in-Err.i + 1 + (c.args.put.n - c.in-Err.i) ≤ length c.args.entries.now = omega arith in q

pub overflow_cast-entries : goal.overflow_cast-entries
overflow_cast-entries c =
    let w = enter_fits _ _ _ _ _ c.requires in omega arith

pub overflow_cast-entries-in-Err : goal.overflow_cast-entries-in-Err
overflow_cast-entries-in-Err c =
    let w = enter_fits _ _ _ _ _ c.requires in omega arith

pub bounds-entries-i-in-Err : goal.bounds-entries-i-in-Err
bounds-entries-i-in-Err c =
    let f = enter_few _ _ _ _ _ c.requires in
    let w = place_within _ _ _ _ _ c.args.minus _ _ (found_err _ c.in-Err.is c.find_place.ensures) _ c.unit-u.ensures c.requires in
    omega (arith, c.copy_within.ensures.len)

pub overflow_add-result-in-Err : goal.overflow_add-result-in-Err
overflow_add-result-in-Err c =
    let f = enter_few _ _ _ _ _ c.requires in omega arith

pub returns-in-Ok : goal.returns-in-Ok
returns-in-Ok c =
    entered_same _ _ _ _ _ c.args.minus _ _ (found_ok _ c.in-Ok.is c.find_place.ensures) _ c.unit-u.ensures refl

pub returns-in-Err : goal.returns-in-Err
returns-in-Err c =
    let f = enter_few _ _ _ _ _ c.requires in
    let w = place_within _ _ _ _ _ c.args.minus _ _ (found_err _ c.in-Err.is c.find_place.ensures) _ c.unit-u.ensures c.requires in
    let i : c.in-Err.i < length c.copy_within.new.self = omega (arith, c.copy_within.ensures.len) in
    entered_new _ _ _ _ _ c.args.minus _ _ (found_err _ c.in-Err.is c.find_place.ensures) _ c.unit-u.ensures refl _
    (opened _ _ _ _ _ w i c.copy_within.ensures.by_index.0 c.copy_within.ensures.by_index.1)
