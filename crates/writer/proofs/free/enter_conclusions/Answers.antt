-- One conclusion a turn: the free ones are those before and the first i of this node, and the entries behind stay 0.
use Rattle.writer.specs.Search.Laws.{mark_room, entering_none, entering_more, entering_all}
use Rattle.writer.specs.Search.Laws.{conclusion_there, entry_bounds, node_small, count_is, inside}
use Rattle.facts.specs.Owed.{room_kept, room_start}
use Rattle.steps.specs.Table.Laws.{node_in}
use lib.ListN.{length-set}
use native.Mathlib.Omega.{arith}
use borrow.Author.Rules.{rules}
use Rattle.writer.proofs.free.enter_conclusions.Goals as goal

pub fact_count-count-requires : goal.fact_count-count-requires
fact_count-count-requires c =
    let (P, xs, h) = c.requires.0 in ((_, P, _, node_in h.right.stand _ h.inside), omega arith)

pub overflow_mul-first : goal.overflow_mul-first
overflow_mul-first c =
    let (P, xs, h) = c.requires.0 in omega (arith, node_small h)

pub loop-i-init : goal.loop-i-init
loop-i-init c =
    (search rules, search rules, λ P xs h. entering_none h)

pub fact_mark-requires : goal.fact_mark-requires
fact_mark-requires c =
    let (P, xs, h) = c.requires.0 in (
      (P, _, conclusion_there h _ (inside h _ c.fact_count-count.ensures _ c.loop-i-test.true)),
      room_start
          (room_kept _ _ _ c.loop-i.invariant.0 c.requires.1),
    )

pub overflow_add-free : goal.overflow_add-free
overflow_add-free c =
    let (P, xs, h) = c.requires.0 in let w = conclusion_there h _ (inside h _ c.fact_count-count.ensures _ c.loop-i-test.true) in omega
    (arith, mark_room w (c.fact_mark.ensures P _ w))

pub overflow_add-free-in-loop-i : goal.overflow_add-free-in-loop-i
overflow_add-free-in-loop-i c =
    let (P, xs, h) = c.requires.0 in omega (arith, entry_bounds h _ (inside h _ c.fact_count-count.ensures _ c.loop-i-test.true))

pub offset_bounds-free-first : goal.offset_bounds-free-first
offset_bounds-free-first c =
    let (P, xs, h) = c.requires.0 in omega (arith, entry_bounds h _ (inside h _ c.fact_count-count.ensures _ c.loop-i-test.true))

pub bounds-free-first : goal.bounds-free-first
bounds-free-first c =
    let (P, xs, h) = c.requires.0 in omega (
      arith,
      entry_bounds h _ (inside h _ c.fact_count-count.ensures _ c.loop-i-test.true),
      h.marked.long,
      h.inside,
      c.loop-i.invariant.1,
    )

pub loop-i-preserved : goal.loop-i-preserved
loop-i-preserved c = (
  search rules,
  simp length-set c.loop-i.invariant.1,
  λ P xs h. let l = inside h _ c.fact_count-count.ensures _ c.loop-i-test.true in
      entering_more h _ l _ (c.fact_mark.ensures P _ (conclusion_there h _ l)) (c.loop-i.invariant.2 P xs h),
)

pub returns : goal.returns
returns c =
    λ P xs h. entering_all h _ (omega (arith, count_is h _ c.fact_count-count.ensures, c.loop-i-test.false))
    (c.loop-i.invariant.2 P xs h)
