-- The invariant is that i lies behind the first j sorts, where they read.
use Rattle.judge.specs.Reading.Lists.{Sorting}
use Rattle.judge.proofs.reading.pass_sorts.Given as goal

abbrev pub invariant-loop : goal.invariant-loop
invariant-loop l =
    Sorting l.file l.at l.k l.counter l.i
