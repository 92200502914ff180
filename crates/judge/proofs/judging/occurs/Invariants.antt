-- The invariant is that the fact has not occurred before e; entries of another symbol cannot be the fact.
use Rattle.judge.specs.Judging.Walking.{Occurring}
use Rattle.judge.proofs.judging.occurs.Given as goal

abbrev pub invariant-loop-e : goal.invariant-loop-e
invariant-loop-e l =
    Occurring l.tables.starts.now l.tables.symbols.now l.tables.classes.now l.tables.base l.fact l.bound.values l.node l.e
