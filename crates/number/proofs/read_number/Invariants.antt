-- Each turn puts one group to the value so far; the number is always what the groups so far make of the rest (`Sofar`).
use Prim.Native.Nat.{◌+◌, ◌-◌}
use Rattle.number.specs.Groups.{most_groups}
use Rattle.number.specs.Reading.Stepwise.{Sofar}
use Rattle.number.proofs.read_number.Given as goal

abbrev pub invariant-loop-i : goal.invariant-loop-i
invariant-loop-i l =
    Sofar l.file l.at l.i l.low l.weight (l.at + most_groups - l.i)
