-- A table over an array of 255s is the padded table.
use Rattle.prepared.specs.Filling.Lists.{splice_padded}
use Rattle.octets.specs.Splice.{splice}
use mathlib.Core.Path.{ap, ◌∙◌}
use Rattle.prepared.proofs.filling.put_padded.Goals as goal

pub returns : goal.returns
returns c =
    c.copy_into-2.ensures.wrote ∙ ap (splice c.args.p.now c.args.at)
    (c.copy_into.ensures.wrote ∙ splice_padded 36 c.args.table.now c.requires.1)
