-- The invariant is that the first j codes are those of the terms read up to i; each turn adds one.
use Rattle.judge.specs.Reading.Lists.{Coding}
use Rattle.judge.proofs.reading.terms.Given as goal

abbrev pub invariant-loop-j : goal.invariant-loop-j
invariant-loop-j l =
    Coding l.file l.at l.k l.j l.i l.codes
