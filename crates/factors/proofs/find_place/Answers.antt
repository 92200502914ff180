-- The invariant is that the entries below lo come before the key and those from hi on behind it; the entries ascend, so each look narrows that.
use Prim.Native.Nat.{ℕ, ◌≤◌, ◌<◌}
use lib.ListN.{length}
use native.Mathlib.Omega.{arith}
use Rattle.factors.proofs.EnterPaths.{between_all, found_between, found_same, Narrowed, narrowed_less, narrowed_greater}
use Rattle.factors.proofs.find_place.Goals as goal
use Rattle.factors.proofs.find_place.Goals.{in-Less, in-Greater}

-- the entry that is looked at is one of the table
looked : (lo hi j n : ℕ) → (lo < hi → (lo ≤ j) × (j < hi)) → hi ≤ n → lo < hi → j < n
looked lo hi j n i h l =
    let p : (lo ≤ j) × (j < hi) = i l in omega arith

pub loop-lo-init : goal.loop-lo-init
loop-lo-init c =
    (between_all _ _ _, λ h. (omega arith, c.first_look-j.ensures h))

pub bounds-entries-j : goal.bounds-entries-j
bounds-entries-j c = omega (arith, looked _ _ _ _ c.loop-lo.invariant.1 c.loop-lo.invariant.0.high c.loop-lo-test.true)

pub compare_at-requires : goal.compare_at-requires
compare_at-requires c = c.requires.0 _ (looked _ _ _ _ c.loop-lo.invariant.1 c.loop-lo.invariant.0.high c.loop-lo-test.true)

pub returns-in-Equal : goal.returns-in-Equal
returns-in-Equal c =
    found_same _ _ _ c.requires.1 _ (looked _ _ _ _ c.loop-lo.invariant.1 c.loop-lo.invariant.0.high c.loop-lo-test.true) _ c.compare_at.ensures c.in-Equal.is

pub overflow_add-lo : goal.overflow_add-lo
overflow_add-lo c = omega (arith, looked _ _ _ _ c.loop-lo.invariant.1 c.loop-lo.invariant.0.high c.loop-lo-test.true)

-- whichever way the look went
narrowed :
    (c : goal.After-row_known-in-loop-lo-1) →
    Narrowed c.args.key.now c.args.src.now c.args.entries.now c.loop-lo.lo c.loop-lo.hi c.match-compare_at.lo c.match-compare_at.hi
narrowed c =
    let r = c.args in
    let I = c.loop-lo.invariant in
    let l : (c.loop-lo.lo ≤ c.loop-lo.j) × (c.loop-lo.j < c.loop-lo.hi) = I.1 c.loop-lo-test.true in
    let j : c.loop-lo.j < length r.entries.now = omega (arith, I.0.high) in
    elim c.match-compare_at.branch [
      | in-Less w ↦ narrowed_less r.key.now r.src.now r.entries.now c.requires.1 _ j _ c.compare_at.ensures _ _ I.0 l.0 l.1
          w.in-Less.is _ _ w.lo-is w.hi-is
      | in-Greater w ↦ narrowed_greater r.key.now r.src.now r.entries.now c.requires.1 _ j _ c.compare_at.ensures _ _ I.0 l.0 l.1
          w.in-Greater.is _ _ w.lo-is w.hi-is
    ]

pub overflow_sub-j : goal.overflow_sub-j
overflow_sub-j c = (narrowed c).between.low

pub loop-lo-smaller : goal.loop-lo-smaller
loop-lo-smaller c = (narrowed c).fewer

pub loop-lo-preserved : goal.loop-lo-preserved
loop-lo-preserved c = ((narrowed c).between, λ h. (omega arith, omega arith))

pub returns : goal.returns
returns c =
    found_between _ _ _ _ _ c.loop-lo-test.false c.loop-lo.invariant.0
