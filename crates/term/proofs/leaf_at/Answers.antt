-- What read_number answers, a number or a fault, is carried over to `name_at`.
use mathlib.Core.Path.{ap, sym, ◌∙◌}
use Rattle.number.specs.Reading.{as_read}
use Rattle.term.specs.Reader.{name_at}
use Rattle.term.proofs.leaf_at.Goals as goal

pub returns : goal.returns
returns c =
    ap (name_at c.args.tag) (ap as_read (sym c.in_ok-n.was) ∙ c.read_number.ensures)

pub returns-in_err-n : goal.returns-in_err-n
returns-in_err-n c =
    rw c.from_residual.ensures (ap (name_at c.args.tag) (ap as_read (sym c.in_err-n.was) ∙ c.read_number.ensures))
