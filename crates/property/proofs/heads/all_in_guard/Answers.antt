-- The invariant is that all is asked of the new variables from x on.
use Rattle.property.specs.Walk.Heads.{guarded_next, guarded_stops, guarded_ends}
use Rattle.property.specs.Walk.{in_guard}
use Rattle.property.specs.Formula.{Sort}
use Rattle.std.proofs.Common.{arith}
use mathlib.Core.Path.{ap, ◌∙◌}
use Rattle.property.proofs.heads.all_in_guard.Goals as goal

pub returns-then-not-in_guard : goal.returns-then-not-in_guard
returns-then-not-in_guard g c =
    λ ts e h. guarded_stops g.S.AsSort.meaning ts c.args.guard.time c.args.sorts.now c.loop-x.x _ c.loop-x-test.true
    (c.in_guard.ensures ts e h ∙ ap (λ (s : Sort). in_guard s c.loop-x.x ts c.args.guard.time) (c.sort.ensures ∙ ap g.S.AsSort.meaning c.index-sorts-x.is))
    c.if-not-in_guard.true ∙ c.loop-x.invariant ts e h

pub loop-x-preserved : goal.loop-x-preserved
loop-x-preserved g c =
    λ ts e h. guarded_next g.S.AsSort.meaning ts c.args.guard.time c.args.sorts.now c.loop-x.x _ c.loop-x-test.true
    (c.in_guard.ensures ts e h ∙ ap (λ (s : Sort). in_guard s c.loop-x.x ts c.args.guard.time) (c.sort.ensures ∙ ap g.S.AsSort.meaning c.index-sorts-x.is))
    c.if-not-in_guard.false ∙ c.loop-x.invariant ts e h

pub returns : goal.returns
returns g c =
    λ ts e h. guarded_ends g.S.AsSort.meaning ts c.args.guard.time c.args.sorts.now c.loop-x.x (omega arith) ∙ c.loop-x.invariant ts e h
