-- The invariant is that j sorts were read up to i; each turn reads one more.
use Rattle.protocol.specs.Figures.{sort_count}
use Rattle.number.specs.Reading.Many.{Came}
use Rattle.number.specs.Reading.{below}
use Rattle.protocol.proofs.walks.sorts_end.Given as goal

abbrev pub invariant-loop-j : goal.invariant-loop-j
invariant-loop-j l =
    Came (below l.file sort_count) l.at l._j l.i
