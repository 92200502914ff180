-- The invariant is that as many sorts as were passed are read up to i and stand in the slice.
use Rattle.property.specs.Walk.Heads.{sorting_begins, sorting_next, sorting_stops}
use Rattle.property.specs.Walk.{as_sort}
use Rattle.property.specs.Formula.{Sort}
use Rattle.number.specs.Reading.{got}
use Rattle.std.proofs.Common.{length-set, ◌<◌, length, arith}
use mathlib.Core.Path.{ap, sym, ◌∙◌}
use Rattle.property.proofs.heads.read_sorts.Goals as goal

pub loop-s-init : goal.loop-s-init
loop-s-init g c = sorting_begins g.S.AsSort.meaning c.args.f.now c.args.at c.args.sorts.now

pub returns-in_err-sort : goal.returns-in_err-sort
returns-in_err-sort g c =
    let l : c.loop-s.s-index < length c.loop-s.sorts = omega arith in
    rw (c.from_residual.ensures, length-set)
    (sorting_stops g.S.AsSort.meaning c.args.f.now c.args.at c.loop-s.sorts l c.loop-s.invariant (ap as_sort (sym c.in_err-sort.was) ∙ c.read_sort.ensures))

pub loop-s-preserved : goal.loop-s-preserved
loop-s-preserved g c =
    let l : c.loop-s.s-index < length c.loop-s.sorts = omega arith in
    sorting_next g.S.AsSort.meaning c.args.f.now c.args.at c.loop-s.sorts c.of.result l c.loop-s.invariant
    (ap (λ (s : Sort). got s c.in_ok-sort.e) c.of.ensures ∙ ap as_sort (sym c.in_ok-sort.was) ∙ c.read_sort.ensures)
