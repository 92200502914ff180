-- The test is the definition.
use Rattle.canonical.specs.Loose.Laws.{beside_base, beside_same}
use mathlib.Core.Path.{sym}
use Rattle.canonical.proofs.beside.Goals as goal

pub returns-then-around-eq-EXP : goal.returns-then-around-eq-EXP
returns-then-around-eq-EXP c =
    sym (beside_base _ c.if-around-eq-EXP.true)

pub returns-else-around-eq-EXP : goal.returns-else-around-eq-EXP
returns-else-around-eq-EXP c =
    sym (beside_same _ c.if-around-eq-EXP.false)
