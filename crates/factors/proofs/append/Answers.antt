-- Nothing moves: the entries stay, and the new one stands behind them.
use Rattle.factors.proofs.EnterPaths.{enter_few, appended}
use Rattle.factors.proofs.append.Goals as goal

pub bounds-entries-n : goal.bounds-entries-n
bounds-entries-n c =
    enter_few _ _ _ _ _ c.requires.2

pub returns : goal.returns
returns c =
    appended _ _ _ _ _ c.args.minus _ c.unit.ensures c.requires.0 c.requires.1 c.requires.3
