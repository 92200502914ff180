-- Where the first pattern is a function and another byte stands there, nothing makes the arguments an instance.
use mathlib.Core.Path.{refl}
use mathlib.Core.Bool.{false}
use native.Mathlib.Omega.{arith}
use lib.ListN.{replicate}
use Rattle.std.proofs.Common.{None}
use Rattle.canonical.proofs.Matching.{function_inside, function_other}
use Rattle.canonical.proofs.Rules.{ruled_fits, ruled_asks, ruled_stays}
use Rattle.canonical.proofs.by_rule.Goals as goal

pub overflow_add-o : goal.overflow_add-o
overflow_add-o c =
    let p = ruled_fits _ _ _ _ _ _ c.requires in omega (arith, p.0, p.1)

pub bounds-out-o : goal.bounds-out-o
bounds-out-o c =
    let pre = c.requires in
    function_inside _ _ _ _ _ _ _ c.if-patterns-gt0.true c.if-tag-ne-A_VARIABLE.true (ruled_asks _ _ _ _ _ _ pre)

pub returns-then-out-o : goal.returns-then-out-o
returns-then-out-o c =
    ruled_stays _ _ _ _ _ _ (replicate 2 None) false
    (function_other _ _ _ _ _ _ _ c.if-patterns-gt0.true c.if-tag-ne-A_VARIABLE.true c.if-out-o.true) refl
