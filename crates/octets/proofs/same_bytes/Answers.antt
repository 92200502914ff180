-- Slices are equal by the library exactly where their order is that of equals.
use mathlib.Core.Path.{◌∙◌}
use Rattle.octets.specs.Compare.Laws.{equal_is_same}
use Rattle.octets.proofs.same_bytes.Goals as goal

pub returns : goal.returns
returns c = c.eq.ensures ∙ equal_is_same c.args.a.now c.args.b.now
