-- 0 and 3 are sorts, any other number is not, and no number is a fault.
use Rattle.property.specs.Walk.Heads.{sort_message, sort_time, sort_other, sort_none}
use Rattle.number.specs.Reading.{as_read}
use mathlib.Core.Path.{ap, sym, ◌∙◌}
use Rattle.property.proofs.heads.read_sort.Goals as goal

pub returns-in_err-v : goal.returns-in_err-v
returns-in_err-v c =
    rw c.from_residual.ensures (sort_none c.args.f.now c.args.at (ap as_read (sym c.in_err-v.was) ∙ c.read_number.ensures))

pub returns-then-v-eq-MESSAGE_SORT : goal.returns-then-v-eq-MESSAGE_SORT
returns-then-v-eq-MESSAGE_SORT c =
    sort_message c.args.f.now c.args.at (ap as_read (sym c.in_ok-v.was) ∙ c.read_number.ensures) c.if-v-eq-MESSAGE_SORT.true

pub returns-then-v-eq-TIME_SORT : goal.returns-then-v-eq-TIME_SORT
returns-then-v-eq-TIME_SORT c =
    sort_time c.args.f.now c.args.at (ap as_read (sym c.in_ok-v.was) ∙ c.read_number.ensures) c.if-v-eq-MESSAGE_SORT.false c.if-v-eq-TIME_SORT.true

pub returns : goal.returns
returns c =
    sort_other c.args.f.now c.args.at (ap as_read (sym c.in_ok-v.was) ∙ c.read_number.ensures) c.if-v-eq-MESSAGE_SORT.false c.if-v-eq-TIME_SORT.false
