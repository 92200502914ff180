-- By the pattern's first byte: the same function or not; a variable's first place, its value again, or another term there.
use native.Mathlib.Omega.{arith}
use mathlib.Core.Path.{refl}
use Rattle.canonical.proofs.Matching.{function_inside, function_other, function_same, number_inside, number_small, argument_here}
use Rattle.canonical.proofs.Matching.{variable_first, value_inside, again_inside, variable_other, variable_again}
use Rattle.canonical.proofs.step.Goals as goal

pub bounds-out-at : goal.bounds-out-at
bounds-out-at c =
    function_inside _ _ _ _ _ _ _ c.requires.0 c.if-tag-ne-A_VARIABLE.true c.requires.1

pub returns-then-out-at : goal.returns-then-out-at
returns-then-out-at c =
    function_other _ _ _ _ _ _ _ c.requires.0 c.if-tag-ne-A_VARIABLE.true c.if-out-at.true

pub overflow_add-result-then-tag-ne-A_VARIABLE : goal.overflow_add-result-then-tag-ne-A_VARIABLE
overflow_add-result-then-tag-ne-A_VARIABLE c =
    let p = function_inside _ _ _ _ _ _ _ c.requires.0 c.if-tag-ne-A_VARIABLE.true c.requires.1 in
    let q = c.requires.1.3.short in omega (arith, p, q)

pub returns-then-tag-ne-A_VARIABLE : goal.returns-then-tag-ne-A_VARIABLE
returns-then-tag-ne-A_VARIABLE c =
    function_same _ _ _ _ _ _ _ c.requires.0 c.if-tag-ne-A_VARIABLE.true c.if-out-at.false

pub bounds-patterns-i-2 : goal.bounds-patterns-i-2
bounds-patterns-i-2 c =
    number_inside _ _ _ _ _ _ _ c.requires.0 c.if-tag-ne-A_VARIABLE.false c.requires.1

pub bounds : goal.bounds
bounds c =
    number_small _ _ _ _ _ _ _ c.requires.0 c.if-tag-ne-A_VARIABLE.false _ refl c.requires.1

pub again-requires : goal.again-requires
again-requires c =
    let p = value_inside _ _ _ _ _ _ _ c.requires.0 c.if-tag-ne-A_VARIABLE.false _ refl _ c.in-Some.is c.requires.1 in
    (c.requires.1.3.short, p.0, p.1)

pub returns-then-not-again : goal.returns-then-not-again
returns-then-not-again c =
    variable_other _ _ _ _ _ _ _ c.requires.0 c.if-tag-ne-A_VARIABLE.false _ refl _ c.in-Some.is _ c.again.ensures c.if-not-again.true

pub overflow_sub-result : goal.overflow_sub-result
overflow_sub-result c =
    let p = value_inside _ _ _ _ _ _ _ c.requires.0 c.if-tag-ne-A_VARIABLE.false _ refl _ c.in-Some.is c.requires.1 in omega (arith, p.0)

pub overflow_add-result-in-Some : goal.overflow_add-result-in-Some
overflow_add-result-in-Some c =
    let p = again_inside _ _ _ _ _ _ _ c.requires.0 c.if-tag-ne-A_VARIABLE.false _ refl _ c.in-Some.is _ c.again.ensures c.if-not-again.false
    c.requires.1 in omega (arith, p, c.requires.1.3.short)

pub returns-else-not-again : goal.returns-else-not-again
returns-else-not-again c =
    variable_again _ _ _ _ _ _ _ c.requires.0 c.if-tag-ne-A_VARIABLE.false _ refl _ c.in-Some.is _ c.again.ensures c.if-not-again.false

pub overflow_sub-patterns : goal.overflow_sub-patterns
overflow_sub-patterns c =
    let p = number_inside _ _ _ _ _ _ _ c.requires.0 c.if-tag-ne-A_VARIABLE.false c.requires.1 in omega (arith, p)

pub argument_end-end-requires : goal.argument_end-end-requires
argument_end-end-requires c =
    (c.requires.1.3.short, argument_here _ _ _ _ _ _ _ c.requires.0 c.if-tag-ne-A_VARIABLE.false c.requires.1)

pub bounds-spans-v-in-None : goal.bounds-spans-v-in-None
bounds-spans-v-in-None c =
    number_small _ _ _ _ _ _ _ c.requires.0 c.if-tag-ne-A_VARIABLE.false _ refl c.requires.1

pub returns-in-None : goal.returns-in-None
returns-in-None c =
    variable_first _ _ _ _ _ _ _ c.requires.0 c.if-tag-ne-A_VARIABLE.false _ refl c.in-None.is _ c.argument_end-end.ensures
