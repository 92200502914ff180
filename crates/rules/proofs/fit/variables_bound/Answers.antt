-- Where the rule reads, its variables are as many as the sorts; where it does not, nothing is promised.
use Rattle.rules.specs.Fit.Laws.{all_is, none_there}
use Rattle.rules.specs.Fit.{p45}
use Rattle.protocol.specs.Protocol.{Rule}
use Rattle.number.specs.Reading.{as_read}
use mathlib.Core.Path.{◌≡◌, ap, sym, ◌∙◌}
use mathlib.Core.Bool.{false}
use Rattle.rules.proofs.fit.variables_bound.Goals as goal

pub returns-in-Some : goal.returns-in-Some
returns-in-Some c =
    all_is c.args.text.now.file.now c.args.text.now.arities.now c.args.text.now.ars.now c.args.x.at _ _ _
    (sym c.sorts_at.ensures ∙ ap as_read c.in-Some.is) c.all_bound.ensures

pub returns-in-None : goal.returns-in-None
returns-in-None c =
    none_there c.args.text.now.file.now c.args.text.now.arities.now c.args.text.now.ars.now c.args.x.at (λ (r : Rule). false ≡ p45 r)
    (sym c.sorts_at.ensures ∙ ap as_read c.in-None.is)
