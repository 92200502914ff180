-- A count of variables, then their sorts; a fault of the count is the fault of both.
use Rattle.protocol.specs.Protocol.Walks.{sorts_got, sorts_fault}
use Rattle.number.specs.Reading.{as_read}
use mathlib.Core.Path.{ap, sym, ◌∙◌}
use Rattle.protocol.proofs.walks.sorts_at.Goals as goal

pub returns : goal.returns
returns c =
    c.sorts_end.ensures ∙ sym (sorts_got _ _ (sym c.below.ensures ∙ ap as_read c.in_ok-n.was))

pub returns-in_err-n : goal.returns-in_err-n
returns-in_err-n c =
    rw c.from_residual.ensures (sym (sorts_fault _ _ (sym c.below.ensures ∙ ap as_read c.in_err-n.was)))
