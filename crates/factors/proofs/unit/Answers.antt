-- The two cases of `sign`.
use mathlib.Core.Path.{sym, ap}
use Rattle.message.specs.Gather.{sign}
use Rattle.factors.proofs.unit.Goals as goal

pub returns-then-minus : goal.returns-then-minus
returns-then-minus c =
    sym (ap sign c.if-minus.true)

pub returns-else-minus : goal.returns-else-minus
returns-else-minus c =
    sym (ap sign c.if-minus.false)
