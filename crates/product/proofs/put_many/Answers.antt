-- The invariant is that as many copies as there were turns are written up to p; the source lies before them, so it is not touched.
use Rattle.product.proofs.PutPaths.{many_first, many_room, many_behind, many_more}
use native.Mathlib.Omega.{arith}
use mathlib.Core.Path.{◌≡◌, refl, sym, ◌∙◌}
use lib.ListN.{length-set}
use Rattle.product.proofs.put_many.Goals as goal

pub loop-init : goal.loop-init
loop-init c =
    let r = c.args in (refl, many_first r.out.now r.o r.a r.e r.m c.requires)

pub bounds-out-p : goal.bounds-out-p
bounds-out-p c =
    let r = c.args in let z = many_room r.out.now r.o r.a r.e r.m c.requires _ _ _ c.loop.invariant c.loop-test.true in omega arith

pub overflow_add-p : goal.overflow_add-p
overflow_add-p c =
    let r = c.args in let z = many_room r.out.now r.o r.a r.e r.m c.requires _ _ _ c.loop.invariant
    c.loop-test.true in omega arith

pub copy_within-requires : goal.copy_within-requires
copy_within-requires c =
    let r = c.args in let z = many_room r.out.now r.o r.a r.e r.m c.requires _ _ _ c.loop.invariant
    c.loop-test.true in let y = many_behind r.out.now r.o r.a r.e r.m c.requires _ _ _ c.loop.invariant
    c.loop-test.true in
    (rw length-set (omega (arith, c.requires.0, c.requires.1)), rw length-set z)

pub overflow_add-p-in-loop : goal.overflow_add-p-in-loop
overflow_add-p-in-loop c =
    let r = c.args in let z = many_room r.out.now r.o r.a r.e r.m c.requires _ _ _ c.loop.invariant c.loop-test.true in omega
    (arith, c.copy_within.auto)

pub overflow_add-p-in-loop-2 : goal.overflow_add-p-in-loop-2
overflow_add-p-in-loop-2 c =
    let r = c.args in let z = many_room r.out.now r.o r.a r.e r.m c.requires _ _ _ c.loop.invariant c.loop-test.true in omega
    (arith, c.copy_within.auto)

pub loop-preserved : goal.loop-preserved
loop-preserved c =
    let r = c.args in (
      c.copy_within.auto.out ∙ length-set c.loop.out c.loop.p 12 ∙ c.loop.invariant.0,
      many_more r.out.now r.o r.a r.e r.m c.requires _ _ _ c.loop.invariant c.loop-test.true _ _ refl
          c.copy_within.ensures,
    )

pub shape_of-out : goal.shape_of-out
shape_of-out c =
    c.loop.invariant.0

pub returns : goal.returns
returns c =
    let z : c.loop.counter ≡ c.args.m = omega arith in rw (sym z) c.loop.invariant.1
