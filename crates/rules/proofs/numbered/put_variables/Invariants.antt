-- The invariant is that i variables are written up to `end`, each behind the lead; there is room for the rest.
use Rattle.rules.specs.Numbered.Writing.{VariablesPut}
use Rattle.rules.proofs.numbered.put_variables.Given as goal

abbrev pub invariant-loop-i : goal.invariant-loop-i
invariant-loop-i l =
    VariablesPut l.initial.out l.at l.lead l.k l.out l.end l.i
