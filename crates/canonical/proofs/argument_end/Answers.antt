-- The last argument ends at e, as nothing is left behind it; a leaf of a small number behind its two bytes; any other where end_of tells.
use native.Mathlib.Omega.{arith}
use mathlib.Core.Path.{sym}
use Rattle.canonical.proofs.Parts.{here_inside, leaf_inside, leaf_ends}
use Rattle.canonical.proofs.argument_end.Goals as goal

pub returns-then-left-eq0 : goal.returns-then-left-eq0
returns-then-left-eq0 c =
    λ d t h k. sym (k c.if-left-eq0.true)

pub bounds-out-at : goal.bounds-out-at
bounds-out-at c =
    here_inside _ _ _ c.requires.1

pub overflow_add-number : goal.overflow_add-number
overflow_add-number c =
    let p = c.requires in
    let w = here_inside _ _ _ p.1 in omega (arith, p.0, w)

pub bounds-out-at-then-tag-lt-FIRST_FUNCTION : goal.bounds-out-at-then-tag-lt-FIRST_FUNCTION
bounds-out-at-then-tag-lt-FIRST_FUNCTION c =
    leaf_inside _ _ _ c.if-tag-lt-FIRST_FUNCTION.true c.requires.1

pub overflow_add-result : goal.overflow_add-result
overflow_add-result c =
    let p = c.requires in
    let w = leaf_inside _ _ _ c.if-tag-lt-FIRST_FUNCTION.true p.1 in omega (arith, p.0, w)

pub returns-then-number-lt-TOP_BIT : goal.returns-then-number-lt-TOP_BIT
returns-then-number-lt-TOP_BIT c =
    λ d t h k. leaf_ends _ _ _ c.if-tag-lt-FIRST_FUNCTION.true c.if-number-lt-TOP_BIT.true d t h

pub returns : goal.returns
returns c =
    λ d t h k. c.end_of.ensures d t h
