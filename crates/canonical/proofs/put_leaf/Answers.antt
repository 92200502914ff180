-- A variable's value lies between two starts and is copied; a name is its tag and number.
use native.Mathlib.Omega.{arith}
use mathlib.Core.Path.{refl}
use Rattle.canonical.proofs.Writes.{number_small, part_length}
use Rattle.canonical.proofs.Leaves.{value_of, value_fits, value_done, name_of, name_done}
use Rattle.canonical.proofs.put_leaf.Goals as goal

pub bounds-starts-v : goal.bounds-starts-v
bounds-starts-v c =
    let l = (value_of _ _ _ _ _ _ _ _ c.if-tag-eq-VARIABLE.true c.requires.2).listed in omega arith

pub bounds-starts-v-then-tag-eq-VARIABLE : goal.bounds-starts-v-then-tag-eq-VARIABLE
bounds-starts-v-then-tag-eq-VARIABLE c =
    (value_of _ _ _ _ _ _ _ _ c.if-tag-eq-VARIABLE.true c.requires.2).listed

pub slice_bounds-copy_into-count : goal.slice_bounds-copy_into-count
slice_bounds-copy_into-count c =
    (value_fits _ _ _ _ _ _ c.if-tag-eq-VARIABLE.true c.requires).order

pub slice_bounds-copy_into-start : goal.slice_bounds-copy_into-start
slice_bounds-copy_into-start c =
    (value_fits _ _ _ _ _ _ c.if-tag-eq-VARIABLE.true c.requires).order

pub slice_bounds-copy_into-end : goal.slice_bounds-copy_into-end
slice_bounds-copy_into-end c =
    (value_fits _ _ _ _ _ _ c.if-tag-eq-VARIABLE.true c.requires).within

pub copy_into-requires : goal.copy_into-requires
copy_into-requires c =
    let v = value_fits _ _ _ _ _ _ c.if-tag-eq-VARIABLE.true c.requires in
    omega (arith, v.room, part_length c.args.vals.now _ _ v.order v.within)

pub returns-then-tag-eq-VARIABLE : goal.returns-then-tag-eq-VARIABLE
returns-then-tag-eq-VARIABLE c =
    value_done _ _ _ _ _ _ c.if-tag-eq-VARIABLE.true _ _ _ _ _ refl refl refl
    c.copy_into.ensures.next c.copy_into.ensures.wrote

pub overflow_cast-tag : goal.overflow_cast-tag
overflow_cast-tag c =
    omega (arith, number_small _ (name_of _ _ _ _ _ _ _ _ c.if-tag-eq-VARIABLE.false c.requires.2).tag_range)

pub put_number-a-requires : goal.put_number-a-requires
put_number-a-requires c =
    let q = name_of _ _ _ _ _ _ _ _ c.if-tag-eq-VARIABLE.false c.requires.2 in
    omega (arith, q.fits)

pub put_number-requires : goal.put_number-requires
put_number-requires c =
    let q = name_of _ _ _ _ _ _ _ _ c.if-tag-eq-VARIABLE.false c.requires.2 in
    omega (arith, q.fits, c.put_number-a.ensures.ends, c.put_number-a.auto)

pub returns : goal.returns
returns c =
    name_done _ _ _ _ _ _ c.if-tag-eq-VARIABLE.false _ _ _ _ c.put_number-a.ensures c.put_number.ensures
