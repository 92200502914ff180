-- A number that has a slot is below the protocol's own or behind them.
use native.Mathlib.Omega.{arith}
use mathlib.Core.Path.{sym}
use Rattle.rules.specs.Numbered.Slots.{slot_low, slot_high, slot_has}
use Rattle.rules.proofs.numbered.slot_of.Goals as goal

pub returns-then-n-lt-FIRST_OWN : goal.returns-then-n-lt-FIRST_OWN
returns-then-n-lt-FIRST_OWN c =
    sym (slot_low _ c.if-n-lt-FIRST_OWN.true)

pub overflow_sub-result : goal.overflow_sub-result
overflow_sub-result c =
    let h = slot_has c.args.n c.if-n-lt-FIRST_OWN.false c.requires in omega (arith, h)

pub returns : goal.returns
returns c =
    sym (slot_high _ c.if-n-lt-FIRST_OWN.false)
