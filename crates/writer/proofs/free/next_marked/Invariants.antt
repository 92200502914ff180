-- The invariant is that no entry between `from` and v has the number.
use Rattle.lists.specs.Scan.{Scanning}
use Rattle.writer.proofs.free.next_marked.Given as goal

abbrev pub invariant-loop-v : goal.invariant-loop-v
invariant-loop-v l =
    Scanning l.free l.wanted l.from l.end l.v
