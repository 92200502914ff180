-- The invariant is that binding the terms below j to what is bound so far gives what binding all gives; each turn binds the last.
use Rattle.judge.specs.Bindings.{finish}
use Rattle.std.proofs.Common.{◌≡◌, ◌+◌, get_or}
use Rattle.judge.proofs.matching.bind.Given as goal

abbrev pub invariant-loop-j : goal.invariant-loop-j
invariant-loop-j l =
    finish (λ i. get_or l.fact.codes i 0) (λ i. get_or l.classes (l.p + i) 0) l.n l.j l.values
    ≡ finish (λ i. get_or l.fact.codes i 0) (λ i. get_or l.classes (l.p + i) 0) l.n l.fact.count l.initial.values
