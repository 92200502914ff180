-- The library's order of slices is ours.
use mathlib.Core.Path.{◌∙◌}
use Rattle.octets.specs.Compare.Laws.{compare_is_cmp}
use Rattle.octets.proofs.compare_bytes.Goals as goal

pub returns : goal.returns
returns c = c.cmp.ensures ∙ compare_is_cmp c.args.a.now c.args.b.now
