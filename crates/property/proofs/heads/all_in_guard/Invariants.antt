-- The invariant is that all is asked of the new variables from x on.
use Rattle.property.specs.Walk.Heads.{rest_guarded}
use Rattle.property.specs.Layout.{term_at}
use Rattle.property.specs.Formula.{Term}
use Rattle.number.specs.Reading.{got, many}
use Rattle.std.proofs.Common.{ℕ, List, ◌≡◌}
use Rattle.property.proofs.heads.all_in_guard.Given as goal

abbrev pub invariant-loop-x : goal.invariant-loop-x
invariant-loop-x g l =
    (ts : List Term) (e : ℕ) → many (term_at l.f) l.guard.count l.guard.terms ≡ got ts e
    → rest_guarded g.S.AsSort.meaning ts l.guard.time l.sorts l.x ≡ rest_guarded g.S.AsSort.meaning ts l.guard.time l.sorts l.n
