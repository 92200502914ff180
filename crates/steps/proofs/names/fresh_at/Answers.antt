-- Of the names that name_at tells, only a fresh one is kept.
use Rattle.term.specs.Reader.{symbol_at}
use Rattle.steps.specs.Names.Code.{of_other}
use Rattle.steps.proofs.names.fresh_at.Goals as goal

pub returns-in-None : goal.returns-in-None
returns-in-None c =
    of_other (symbol_at c.args.file.now c.args.arities.now c.args.at) c.name_at.result c.name_at.ensures c.in-None.is
