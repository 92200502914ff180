-- The whole file is a fit formula with no variable in scope, so the judge's answer at its start is the property's.
use Rattle.judge.specs.Judging.Returns.{property_fits, property_says}
use Rattle.judge.proofs.judging.holds.Goals as goal

pub judge-requires : goal.judge-requires
judge-requires c =
    (property_fits (λ i. (c.type_inv.file i).fits) c.requires.0, c.requires.1)

pub returns : goal.returns
returns c =
    property_says (λ i. (c.type_inv.file i).fits) c.args.starts.now c.args.symbols.now c.args.classes.now c.args.base _
    c.judge.result c.judge.ensures
