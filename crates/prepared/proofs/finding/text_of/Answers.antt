-- The two tables are parts of the slice.
use Rattle.prepared.specs.Prepared.Laws.{slots_length}
use mathlib.Core.Path.{sym}
use Rattle.prepared.proofs.finding.text_of.Goals as goal

pub slice_bounds-result-end : goal.slice_bounds-result-end
slice_bounds-result-end c =
    sym (slots_length c.args.p.now c.requires)
