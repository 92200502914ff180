-- What see_guard tells, without the place of the terms, is the atom's reading and test.
use Rattle.property.specs.Walk.Facts.{action_end, action_none}
use Rattle.std.proofs.Common.{map}
use mathlib.Core.Path.{sym, ◌∙◌}
use Rattle.property.proofs.facts.see_action.Goals as goal

pub returns-in_err-guard : goal.returns-in_err-guard
returns-in_err-guard g c =
    λ ars t. rw c.from_residual.ensures
    (action_none (map g.S.AsSort.meaning c.args.sorts.now) c.args.file.bytes.now ars c.args.at (sym c.in_err-guard.was ∙ c.see_guard.ensures ars t))

pub returns : goal.returns
returns g c =
    λ ars t. action_end (map g.S.AsSort.meaning c.args.sorts.now) c.args.file.bytes.now ars c.args.at (sym c.in_ok-guard.was ∙ c.see_guard.ensures ars t)
