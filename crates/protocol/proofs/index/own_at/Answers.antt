-- The two numbers one behind the other: a fault at the first, at the second, or both read.
use Rattle.protocol.specs.Index.Fill.{own_got, own_first, own_second}
use Rattle.number.specs.Reading.{as_read}
use mathlib.Core.Path.{ap, sym, ◌∙◌}
use Rattle.protocol.proofs.index.own_at.Goals as goal

pub returns-in_err-a : goal.returns-in_err-a
returns-in_err-a c =
    rw c.from_residual.ensures (sym (own_first _ _ (sym c.below.ensures ∙ ap as_read c.in_err-a.was)))

pub returns : goal.returns
returns c =
    sym (own_got _ _ (sym c.below.ensures ∙ ap as_read c.in_ok-a.was) (sym c.below-2.ensures ∙ ap as_read c.in_ok-l.was))

pub returns-in_err-l : goal.returns-in_err-l
returns-in_err-l c =
    rw c.from_residual-in_err-l.ensures
    (sym (own_second _ _ (sym c.below.ensures ∙ ap as_read c.in_ok-a.was) (sym c.below-2.ensures ∙ ap as_read c.in_err-l.was)))
