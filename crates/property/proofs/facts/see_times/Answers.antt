-- Two time variables one behind the other; whether the atom is before or same time changes neither reading nor test.
use Rattle.property.specs.Walk.Facts.{times_end, times_none}
use Rattle.std.proofs.Common.{map}
use mathlib.Core.List.{[]}
use mathlib.Core.Path.{sym, ◌∙◌}
use Rattle.property.proofs.facts.see_times.Goals as goal

pub returns-in_err-i : goal.returns-in_err-i
returns-in_err-i g c =
    λ q. rw c.from_residual.ensures (times_none (map g.S.AsSort.meaning c.args.sorts.now) c.args.f.now [] c.args.at (sym c.in_err-i.was ∙ c.see_time.ensures) q)

pub returns-in_err-e : goal.returns-in_err-e
returns-in_err-e g c =
    λ q. rw c.from_residual-in_err-e.ensures
    (times_end (map g.S.AsSort.meaning c.args.sorts.now) c.args.f.now [] c.args.at (sym c.in_ok-i.was ∙ c.see_time.ensures)
    (sym c.in_err-e.was ∙ c.see_time-2.ensures) q)

pub returns : goal.returns
returns g c =
    λ q. times_end (map g.S.AsSort.meaning c.args.sorts.now) c.args.f.now [] c.args.at (sym c.in_ok-i.was ∙ c.see_time.ensures)
    (sym c.in_ok-e.was ∙ c.see_time-2.ensures) q
