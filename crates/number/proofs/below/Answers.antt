-- The clauses of `below` at what read_number read, and at its fault.
use mathlib.Core.Path.{ap, sym, ◌∙◌}
use Rattle.number.specs.Reading.Numbers.{below_yes, below_no, below_none}
use Rattle.number.specs.Reading.{as_read}
use Rattle.number.proofs.below.Goals as goal

pub returns-then-v-n : goal.returns-then-v-n
returns-then-v-n c =
    sym (below_yes c.args.file.now c.args.n c.args.at (sym c.read_number.ensures ∙ ap as_read c.in_ok-v.was)
    c.if-v-n.true)

pub returns-else-v-n : goal.returns-else-v-n
returns-else-v-n c =
    sym (below_no c.args.file.now c.args.n c.args.at (sym c.read_number.ensures ∙ ap as_read c.in_ok-v.was)
    c.if-v-n.false)

pub returns-in_err-v : goal.returns-in_err-v
returns-in_err-v c =
    rw c.from_residual.ensures
    (sym (below_none c.args.file.now c.args.n c.args.at (sym c.read_number.ensures ∙ ap as_read c.in_err-v.was)))
