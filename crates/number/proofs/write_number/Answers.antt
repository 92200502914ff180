-- The invariant is that writing the rest's groups at i would give what is promised; each turn writes the lowest of them,
-- which the low seven bits are: they are the remainder by 128 (`and_mask`).
use Rattle.number.specs.Groups.Laws.{groups_one, groups_more, groups_some}
use Rattle.number.specs.Groups.{groups}
use Rattle.octets.specs.Splice.Laws.{splice_cons, sets_splice}
use Rattle.octets.specs.Splice.{splice}
use native.Mathlib.Omega.{arith}
use lib.Bits.{bit_and, and_mask}
use mathlib.Core.Path.{◌≡◌, ap, sym, ◌∙◌, refl}
use lib.ListN.{length, length-set}
use mathlib.Core.List.{◌∷◌}
use Prim.Native.Nat.{◌+◌, ◌/◌}
use Rattle.number.proofs.write_number.Goals as goal

pub loop-rest-init : goal.loop-rest-init
loop-rest-init c =
    (refl, refl, refl)

pub overflow_add-out : goal.overflow_add-out
overflow_add-out c =
    omega (arith, and_mask c.loop-rest.rest 7)

pub overflow_cast-out : goal.overflow_cast-out
overflow_cast-out c =
    omega (arith, and_mask c.loop-rest.rest 7)

pub bounds-out-i : goal.bounds-out-i
bounds-out-i c =
    omega (arith, groups_some c.loop-rest.rest)

pub overflow_add-i : goal.overflow_add-i
overflow_add-i c =
    omega (arith, groups_some c.loop-rest.rest)

pub loop-rest-preserved : goal.loop-rest-preserved
loop-rest-preserved c =
    let l = c.loop-rest in
    let g : groups l.rest ≡ (128 + bit_and l.rest 127) ∷ groups (l.rest / 128) =
    rw (and_mask l.rest 7) (groups_more l.rest c.loop-rest-test.true) in
    let len = ap length g in
    (simp length-set l.invariant.0, omega arith, splice_cons l.out l.i _ _ (omega arith) ∙ ap (splice l.out l.i) (sym g) ∙ l.invariant.2)

pub bounds-out-i-2 : goal.bounds-out-i-2
bounds-out-i-2 c =
    omega (arith, groups_some c.loop-rest.rest)

pub overflow_add-result : goal.overflow_add-result
overflow_add-result c =
    omega (arith, groups_some c.loop-rest.rest)

pub shape_of-out : goal.shape_of-out
shape_of-out c =
    simp length-set c.loop-rest.invariant.0

pub returns : goal.returns
returns c =
    let l = c.loop-rest in
    let g = groups_one l.rest c.loop-rest-test.false in
    let len = ap length g in
    record { next = omega arith; wrote = sets_splice l.out l.i _ (omega arith) ∙ ap (splice l.out l.i) (sym g) ∙ l.invariant.2 }
