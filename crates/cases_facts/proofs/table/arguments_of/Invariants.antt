-- The table holds no more than its most, and all that was pushed are arguments of the facts.
use Rattle.std.specs.Prelude.{◌≤◌}
use Rattle.std.specs.List.{All}
use Rattle.arrayvec.specs.ArrayVec.{array_vec_len}
use Rattle.cases_facts.specs.Table.{IsArgument, most_arguments}
use Rattle.cases_facts.proofs.table.arguments_of.Given as goal

abbrev pub invariant-loop-x : goal.invariant-loop-x
invariant-loop-x l = (array_vec_len l.arguments ≤ most_arguments) × All (IsArgument l.t) l.arguments.items

abbrev pub invariant-loop-number : goal.invariant-loop-number
invariant-loop-number l = (array_vec_len l.arguments ≤ most_arguments) × All (IsArgument l.t) l.arguments.items
