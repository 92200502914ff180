-- The formula ends where the file does, or bytes are left over, or it does not read.
use Rattle.property.specs.Walk.Formulas.{property_end, property_left, property_none}
use mathlib.Core.Path.{sym, ◌∙◌}
use Rattle.property.proofs.formulas.see_property.Goals as goal

pub returns-in_err-e : goal.returns-in_err-e
returns-in_err-e c =
    λ ars t. rw c.from_residual.ensures
    (property_none c.args.file.bytes.now ars (sym c.in_err-e.was ∙ c.see_formula.ensures ars t))

pub returns-then-e-file : goal.returns-then-e-file
returns-then-e-file c =
    λ ars t. property_end c.args.file.bytes.now ars (sym c.in_ok-e.was ∙ c.see_formula.ensures ars t) c.if-e-file.true

pub returns : goal.returns
returns c =
    λ ars t. property_left c.args.file.bytes.now ars (sym c.in_ok-e.was ∙ c.see_formula.ensures ars t) c.if-e-file.false
