-- A byte that is a whole number is a whole tag: where a term stands, a leaf has its number behind it.
use Rattle.factors.specs.Way.Laws.{there_inside, name_inside, there_name}
use native.Mathlib.Omega.{arith}
use Rattle.factors.proofs.way_there.Goals as goal

pub bounds-src-at : goal.bounds-src-at
bounds-src-at c =
    there_inside _ _ _ c.requires

pub overflow_add-c : goal.overflow_add-c
overflow_add-c c =
    let w = there_inside _ _ _ c.requires in omega arith

pub bounds-src-at-then-b-lt-FIRST_FUNCTION : goal.bounds-src-at-then-b-lt-FIRST_FUNCTION
bounds-src-at-then-b-lt-FIRST_FUNCTION c =
    name_inside _ _ _ c.requires c.if-b-lt-FIRST_FUNCTION.true

pub overflow_add-result : goal.overflow_add-result
overflow_add-result c =
    let w = name_inside _ _ _ c.requires c.if-b-lt-FIRST_FUNCTION.true in omega arith

pub returns-then-c-lt-TOP_BIT : goal.returns-then-c-lt-TOP_BIT
returns-then-c-lt-TOP_BIT c =
    there_name _ _ _ c.requires c.if-b-lt-FIRST_FUNCTION.true c.if-c-lt-TOP_BIT.true
