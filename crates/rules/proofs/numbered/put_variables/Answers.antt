-- The invariant is that i variables are written up to `end`, each behind the lead; there is room for the rest.
use Rattle.rules.specs.Numbered.Writing.{variables_none, variables_all, variables_room, variables_more}
use native.Mathlib.Omega.{arith}
use Rattle.rules.proofs.numbered.put_variables.Goals as goal

pub loop-i-init : goal.loop-i-init
loop-i-init c =
    variables_none _ _ c.args.lead.now _

pub copy_into-end-requires : goal.copy_into-end-requires
copy_into-end-requires c =
    omega (arith, variables_room _ _ _ _ c.requires _ _ _ c.loop-i.invariant c.loop-i-test.true)

pub bounds-out-end : goal.bounds-out-end
bounds-out-end c =
    omega (arith, variables_room _ _ _ _ c.requires _ _ _ c.loop-i.invariant c.loop-i-test.true)

pub overflow_add-end : goal.overflow_add-end
overflow_add-end c =
    omega (arith, variables_room _ _ _ _ c.requires _ _ _ c.loop-i.invariant c.loop-i-test.true)

pub loop-i-preserved : goal.loop-i-preserved
loop-i-preserved c =
    variables_more _ _ _ _ c.requires _ _ _ c.loop-i.invariant c.loop-i-test.true _ _ c.copy_into-end.ensures.next
    c.copy_into-end.ensures.wrote

pub returns : goal.returns
returns c =
    variables_all _ _ _ _ _ _ _ c.loop-i.invariant (omega arith)
