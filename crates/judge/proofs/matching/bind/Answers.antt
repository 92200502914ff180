-- The invariant is that binding the terms below j to what is bound so far gives what binding all gives; each turn binds the last.
use Rattle.judge.specs.Bindings.Slots.{finish_step, finish_none}
use Rattle.judge.specs.Bindings.{finish}
use Rattle.std.proofs.Common.{ℕ, List, ap, get_or, ◌+◌, ◌-◌, arith}
use mathlib.Core.Path.{refl, sym, ◌∙◌}
use Rattle.judge.proofs.matching.bind.Goals as goal

pub loop-j-init : goal.loop-j-init
loop-j-init c = refl

pub loop-j-preserved : goal.loop-j-preserved
loop-j-preserved c =
    let T : ℕ → ℕ = λ i. get_or c.args.fact.now.codes i 0 in
    let M : ℕ → ℕ = λ i. get_or c.args.classes.now (c.args.p + i) 0 in
    ap (λ (x : List ℕ). finish T M c.args.n (c.loop-j.j - 1) x) c.put.ensures
    ∙ finish_step T M c.args.n c.loop-j.j c.loop-j.values (omega arith) ∙ c.loop-j.invariant

pub returns : goal.returns
returns c =
    let T : ℕ → ℕ = λ i. get_or c.args.fact.now.codes i 0 in
    let M : ℕ → ℕ = λ i. get_or c.args.classes.now (c.args.p + i) 0 in
    sym (finish_none T M c.args.n c.loop-j.j c.loop-j.values (λ z. omega arith)) ∙ c.loop-j.invariant
