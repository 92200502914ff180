-- Together, the formula left falling: judge has a case for each tag; walk's invariant is that `truth` folds the matches among the entries before e.
use Rattle.judge.specs.Judging.Walking.{Walking}
use lib.ListN.{length}
use Prim.Native.Nat.{◌+◌, ◌-◌, ◌*◌}
use Rattle.judge.proofs.judging.+judge_walk.Given as goal

abbrev pub decreases-judge : goal.decreases-judge
decreases-judge l =
    2 * (length l.file.now - l.at)

abbrev pub decreases-walk : goal.decreases-walk
decreases-walk l =
    2 * (length l.file.now - l.guard.now.fact.next) + 1

abbrev pub invariant-walk-loop-e : goal.invariant-walk-loop-e
invariant-walk-loop-e l =
    Walking l.tables.starts.now l.tables.symbols.now l.tables.classes.now l.tables.base l.file l.arities l.guard l.bound.count l.bound.values l.truth l.next l.node l.e
