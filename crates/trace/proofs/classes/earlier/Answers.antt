-- The invariant is that no place of the chain passed so far is the same argument; links lead to lower places, so it ends.
use borrow.Author.Rules.{rules}
use native.Mathlib.Omega.{arith}
use mathlib.Core.Path.{◌≡◌}
use Prim.Native.Nat.{suc, ◌-◌}
use Rattle.lists.specs.Tests.{true_false}
use Rattle.facts.specs.Owed.{room_kept}
use Rattle.trace.specs.Classes.Walk.{walking_first, walking_next, walking_found, walking_ends, place_small, two_places, keys_test}
use Rattle.trace.proofs.classes.earlier.Goals as goal

pub offset_bounds-entries-q : goal.offset_bounds-entries-q
offset_bounds-entries-q c =
    let (P, xs, w) = c.requires.0 in
    omega (arith, place_small w.listed _ w.place)

pub bounds-entries-q : goal.bounds-entries-q
bounds-entries-q c =
    let (P, xs, w) = c.requires.0 in
    omega (arith, place_small w.listed _ w.place)

pub loop-h-init : goal.loop-h-init
loop-h-init c =
    (search rules, λ P xs w. walking_first w)

pub overflow_cast-r : goal.overflow_cast-r
overflow_cast-r c =
    let (P, xs, w) = c.requires.0 in
    let e : c.loop-h.h ≡ suc (c.loop-h.h - 1) = omega (arith, c.loop-h-test.true) in
    omega (arith, place_small w.listed _ ((c.loop-h.invariant.1 P xs w).places _ e))

pub offset_bounds-entries-r : goal.offset_bounds-entries-r
offset_bounds-entries-r c =
    let (P, xs, w) = c.requires.0 in
    let e : c.loop-h.h ≡ suc (c.loop-h.h - 1) = omega (arith, c.loop-h-test.true) in
    omega (arith, place_small w.listed _ ((c.loop-h.invariant.1 P xs w).places _ e))

pub bounds-entries-r : goal.bounds-entries-r
bounds-entries-r c =
    let (P, xs, w) = c.requires.0 in
    let e : c.loop-h.h ≡ suc (c.loop-h.h - 1) = omega (arith, c.loop-h-test.true) in
    omega (arith, place_small w.listed _ ((c.loop-h.invariant.1 P xs w).places _ e))

pub same_argument-requires : goal.same_argument-requires
same_argument-requires c =
    let (P, xs, w) = c.requires.0 in
    let e : c.loop-h.h ≡ suc (c.loop-h.h - 1) = omega (arith, c.loop-h-test.true) in (
      (P, _, _, two_places w.listed _ _ w.place ((c.loop-h.invariant.1 P xs w).places _ e) _ c.action_of-x.ensures _ c.action_of-y.ensures),
      room_kept _ _ _ c.loop-h.invariant.0 c.requires.1,
    )

pub returns-then-same_argument : goal.returns-then-same_argument
returns-then-same_argument c =
    λ P xs w.
    let e : c.loop-h.h ≡ suc (c.loop-h.h - 1) = omega (arith, c.loop-h-test.true) in
    let i = (c.loop-h.invariant.1 P xs w).places _ e in
    walking_found w (c.loop-h.invariant.1 P xs w) _ e
    ((keys_test w.listed _ _ w.place i _ c.action_of-x.ensures _ c.action_of-y.ensures _
    (c.same_argument.ensures P _ _ (two_places w.listed _ _ w.place i _ c.action_of-x.ensures _ c.action_of-y.ensures))).0 c.if-same_argument.true)

pub offset_bounds-chains-r : goal.offset_bounds-chains-r
offset_bounds-chains-r c =
    let (P, xs, w) = c.requires.0 in
    let e : c.loop-h.h ≡ suc (c.loop-h.h - 1) = omega (arith, c.loop-h-test.true) in
    omega (arith, place_small w.listed _ ((c.loop-h.invariant.1 P xs w).places _ e))

pub bounds-chains-r : goal.bounds-chains-r
bounds-chains-r c =
    let (P, xs, w) = c.requires.0 in
    let e : c.loop-h.h ≡ suc (c.loop-h.h - 1) = omega (arith, c.loop-h-test.true) in
    omega (arith, (c.loop-h.invariant.1 P xs w).low, e, c.requires.2)

pub loop-h-smaller : goal.loop-h-smaller
loop-h-smaller c =
    let (P, xs, w) = c.requires.0 in
    omega (arith, w.falls (c.loop-h.h - 1), c.loop-h-test.true)

pub loop-h-preserved : goal.loop-h-preserved
loop-h-preserved c = (
  search rules,
  λ P xs w.
      let e : c.loop-h.h ≡ suc (c.loop-h.h - 1) = omega (arith, c.loop-h-test.true) in
      let i = (c.loop-h.invariant.1 P xs w).places _ e in
      walking_next w (c.loop-h.invariant.1 P xs w) (c.loop-h.h - 1) e
      (λ k. true_false _ ((keys_test w.listed _ _ w.place i _ c.action_of-x.ensures _ c.action_of-y.ensures _
      (c.same_argument.ensures P _ _ (two_places w.listed _ _ w.place i _ c.action_of-x.ensures _ c.action_of-y.ensures))).1 k)
      c.if-same_argument.false),
)

pub returns : goal.returns
returns c =
    λ P xs w. walking_ends w (c.loop-h.invariant.1 P xs w) (omega (arith, c.loop-h-test.false))
