-- No row below zero, none above, or both: P, inv(N), or mul(P, inv(N)).
use Rattle.product.proofs.LayPaths.{both_held, next_place, next_none, next_inside}
use Rattle.product.proofs.LayPaths.{up_asks, up_wrote, down_asks, down_wrote, first_asks, second_asks, second_wrote}
use native.Mathlib.Omega.{arith}
use Rattle.product.proofs.write_table.Goals as goal

pub next_row-requires : goal.next_row-requires
next_row-requires c =
    (omega arith, both_held c.args.entries.now c.args.out.now c.args.o c.requires)

pub write_rows-requires : goal.write_rows-requires
write_rows-requires c =
    let r = c.args in
    let N = c.next_row.ensures in
    up_asks r.entries.now r.out.now r.o _ (next_place _ _ _ _ N) (next_none _ _ _ _ N _ c.is_none.ensures c.if-is_none.true) c.requires

pub returns-then-is_none : goal.returns-then-is_none
returns-then-is_none c =
    let r = c.args in
    let N = c.next_row.ensures in
    up_wrote r.entries.now r.out.now r.o _ (next_place _ _ _ _ N) (next_none _ _ _ _ N _ c.is_none.ensures c.if-is_none.true)
    _ _ c.write_rows.ensures

pub next_row-requires-2 : goal.next_row-requires-2
next_row-requires-2 c =
    (omega arith, both_held c.args.entries.now c.args.out.now c.args.o c.requires)

pub write_tagged-requires : goal.write_tagged-requires
write_tagged-requires c =
    let r = c.args in
    let N = c.next_row.ensures in
    let M = c.next_row-2.ensures in
    down_asks r.entries.now r.out.now r.o _ (next_place _ _ _ _ N) (next_inside _ _ _ _ N _ c.is_none.ensures c.if-is_none.false) _
    (next_place _ _ _ _ M) (next_none _ _ _ _ M _ c.is_none-2.ensures c.if-is_none-2.true) c.requires

pub returns-then-is_none-2 : goal.returns-then-is_none-2
returns-then-is_none-2 c =
    let r = c.args in
    let N = c.next_row.ensures in
    let M = c.next_row-2.ensures in
    down_wrote r.entries.now r.out.now r.o _ (next_place _ _ _ _ N) (next_inside _ _ _ _ N _ c.is_none.ensures c.if-is_none.false) _
    (next_place _ _ _ _ M) (next_none _ _ _ _ M _ c.is_none-2.ensures c.if-is_none-2.true) _ _ c.write_tagged.ensures

pub write_tagged-i-requires : goal.write_tagged-i-requires
write_tagged-i-requires c =
    let r = c.args in
    let N = c.next_row.ensures in
    let M = c.next_row-2.ensures in
    first_asks r.entries.now r.out.now r.o _ (next_place _ _ _ _ N) (next_inside _ _ _ _ N _ c.is_none.ensures c.if-is_none.false) _
    (next_place _ _ _ _ M) (next_inside _ _ _ _ M _ c.is_none-2.ensures c.if-is_none-2.false) c.requires

pub write_tagged-requires-2 : goal.write_tagged-requires-2
write_tagged-requires-2 c =
    let r = c.args in
    let N = c.next_row.ensures in
    let M = c.next_row-2.ensures in
    second_asks r.entries.now r.out.now r.o _ (next_place _ _ _ _ N) (next_inside _ _ _ _ N _ c.is_none.ensures c.if-is_none.false) _
    (next_place _ _ _ _ M) (next_inside _ _ _ _ M _ c.is_none-2.ensures c.if-is_none-2.false) _ _ c.write_tagged-i.ensures
    c.write_tagged-i.auto.out c.requires

pub returns : goal.returns
returns c =
    let r = c.args in
    let N = c.next_row.ensures in
    let M = c.next_row-2.ensures in
    second_wrote r.entries.now r.out.now r.o _ (next_place _ _ _ _ N) (next_inside _ _ _ _ N _ c.is_none.ensures c.if-is_none.false) _
    (next_place _ _ _ _ M) (next_inside _ _ _ _ M _ c.is_none-2.ensures c.if-is_none-2.false) _ _ c.write_tagged-i.ensures
    c.write_tagged-i.auto.out _ _ c.write_tagged-2.ensures
