-- The guard in the scope with the new variables, and each of these in it; a fault of the guard is the head's.
use Rattle.property.specs.Walk.Heads.{new_end, new_none}
use mathlib.Core.Path.{refl, sym, ◌∙◌}
use Rattle.property.proofs.heads.see_new.Goals as goal

pub returns-in_err-guard : goal.returns-in_err-guard
returns-in_err-guard g c =
    λ ars t. rw c.from_residual.ensures
    (new_none c.args.file.bytes.now ars g.S.AsSort.meaning c.args.at c.args.n c.args.sorts.now c.requires (sym c.in_err-guard.was ∙ c.see_guard.ensures ars t))

pub returns : goal.returns
returns g c =
    λ ars t. new_end c.args.file.bytes.now ars g.S.AsSort.meaning c.args.at c.args.n c.args.sorts.now c.requires
    (sym c.in_ok-guard.was ∙ c.see_guard.ensures ars t) c.all_in_guard.ensures refl
