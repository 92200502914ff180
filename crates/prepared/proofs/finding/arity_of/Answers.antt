-- The byte at a place of the slice is the element of the section that begins before it.
use Rattle.prepared.specs.Prepared.Laws.{part_at}
use Rattle.prepared.specs.Sections.{arities_at}
use Rattle.protocol.specs.Figures.{symbol_count}
use mathlib.Core.Path.{sym, ◌∙◌}
use Rattle.prepared.proofs.finding.arity_of.Goals as goal

pub returns : goal.returns
returns c =
    c.from.ensures ∙ sym (part_at c.args.p.now arities_at symbol_count c.args.symbol c.requires.0)
