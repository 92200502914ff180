-- The invariant is that as many sorts as were passed are read up to i and stand in the slice.
use Rattle.property.specs.Walk.Heads.{Sorting}
use Rattle.property.proofs.heads.read_sorts.Given as goal

abbrev pub invariant-loop-s : goal.invariant-loop-s
invariant-loop-s g l =
    Sorting g.S.AsSort.meaning l.f l.at l.sorts l.s-index l.i
