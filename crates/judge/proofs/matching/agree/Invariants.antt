-- The invariant is that the first j terms agree.
use Rattle.judge.specs.Bindings.{value, is_new, all_up}
use Rattle.std.proofs.Common.{◌≡◌, true, ◌||◌, ◌+◌, get_or, eqb}
use Rattle.judge.proofs.matching.agree.Given as goal

abbrev pub invariant-loop-j : goal.invariant-loop-j
invariant-loop-j l =
    all_up (λ i. is_new l.n (get_or l.fact.codes i 0) || eqb (value l.base l.values (get_or l.fact.codes i 0)) (get_or l.classes (l.p + i) 0)) l.j ≡ true
