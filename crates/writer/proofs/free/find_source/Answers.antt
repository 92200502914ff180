-- The scan goes from mark to mark, and the kept fact stays; none before is the same: another mark is another fact, and the rest were compared.
use Rattle.writer.specs.Search.Laws.{searched, search_end, mark_room, marked_next, pass_on, fact_there, other_fact, found_here}
use Rattle.facts.specs.Owed.{room_kept}
use native.Mathlib.Omega.{arith}
use mathlib.Core.Path.{refl, ◌∙◌}
use Rattle.writer.proofs.free.find_source.Goals as goal

pub overflow_add-wanted : goal.overflow_add-wanted
overflow_add-wanted c =
    let (P, xs, h) = c.requires.0 in omega (arith, mark_room (searched h) h.keeps.mark_is)

pub loop-next-init : goal.loop-next-init
loop-next-init c = record {
  long = refl;
  stays = refl;
  marked = marked_next _ _ _ _ _ c.next_marked-next.ensures;
  before = λ a P xs h. pass_on h 0 _ _ c.next_marked-next.ensures refl;
}

pub same_as_kept-requires : goal.same_as_kept-requires
same_as_kept-requires c =
    let (P, xs, h) = c.requires.0 in (
      (P, _, fact_there h _ (c.loop-next.invariant.marked _ c.in-Some.is).1 _ c.conclusion_of.ensures),
      room_kept _ _ _ c.loop-next.invariant.long c.requires.1,
      h.keeps.few,
    )

pub returns-then-same_as_kept : goal.returns-then-same_as_kept
returns-then-same_as_kept c =
    λ P xs h. let (inside, agree) = c.loop-next.invariant.marked _ c.in-Some.is in
    found_here h _ agree _ c.conclusion_of.ensures _ _ c.loop-next.invariant.stays
    (c.same_as_kept.ensures.same P _ (fact_there h _ agree _ c.conclusion_of.ensures)) inside c.if-same_as_kept.true
    (rw c.in-Some.is at (c.loop-next.invariant.before c.args.x P xs h))

pub overflow_add-v : goal.overflow_add-v
overflow_add-v c =
    let (P, xs, h) = c.requires.0 in omega (arith, search_end h, c.loop-next.invariant.marked _ c.in-Some.is)

pub next_marked-next-requires-in-Some : goal.next_marked-next-requires-in-Some
next_marked-next-requires-in-Some c =
    let (P, xs, h) = c.requires.0 in
    (omega (arith, c.loop-next.invariant.marked _ c.in-Some.is), omega (arith, h.inside, h.marked.long))

pub loop-next-preserved : goal.loop-next-preserved
loop-next-preserved c = record {
  long = omega (arith, c.same_as_kept.auto, c.loop-next.invariant.long);
  stays = c.same_as_kept.ensures.stays ∙ c.loop-next.invariant.stays;
  marked = marked_next _ _ _ _ _ c.next_marked-next-in-Some.ensures;
  before = λ a P xs h. let agree = (c.loop-next.invariant.marked _ c.in-Some.is).1 in
      pass_on h _ _ _ c.next_marked-next-in-Some.ensures
      (other_fact h _ agree _ c.conclusion_of.ensures _ _ c.loop-next.invariant.stays
      (c.same_as_kept.ensures.same P _ (fact_there h _ agree _ c.conclusion_of.ensures)) c.if-same_as_kept.false
      (rw c.in-Some.is at (c.loop-next.invariant.before a P xs h)));
}
