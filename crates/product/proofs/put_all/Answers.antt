-- Three bytes one behind the other are the tag and the leaf, which stands before them; otherwise `put_many` promises the same.
use Rattle.product.proofs.PutPaths.{short_room, short_wrote}
use lib.ListN.{length-set}
use native.Mathlib.Omega.{arith}
use Rattle.product.proofs.put_all.Goals as goal

pub bounds-out-o : goal.bounds-out-o
bounds-out-o c =
    omega (arith, short_room _ _ _ _ _ c.requires c.if-m-eq1.true c.if-e-a-eq-SHORT_LEAF.true)

pub bounds-out-a : goal.bounds-out-a
bounds-out-a c =
    rw length-set (omega (arith, short_room _ _ _ _ _ c.requires c.if-m-eq1.true c.if-e-a-eq-SHORT_LEAF.true, c.requires.1))

pub bounds-out-o-then-e-a-eq-SHORT_LEAF : goal.bounds-out-o-then-e-a-eq-SHORT_LEAF
bounds-out-o-then-e-a-eq-SHORT_LEAF c =
    rw length-set (omega (arith, short_room _ _ _ _ _ c.requires c.if-m-eq1.true c.if-e-a-eq-SHORT_LEAF.true))

pub bounds-out-a-then-e-a-eq-SHORT_LEAF : goal.bounds-out-a-then-e-a-eq-SHORT_LEAF
bounds-out-a-then-e-a-eq-SHORT_LEAF c =
    rw length-set (rw length-set (omega (arith, short_room _ _ _ _ _ c.requires c.if-m-eq1.true c.if-e-a-eq-SHORT_LEAF.true, c.requires.1)))

pub bounds-out-o-then-e-a-eq-SHORT_LEAF-2 : goal.bounds-out-o-then-e-a-eq-SHORT_LEAF-2
bounds-out-o-then-e-a-eq-SHORT_LEAF-2 c =
    rw length-set (rw length-set (omega (arith, short_room _ _ _ _ _ c.requires c.if-m-eq1.true c.if-e-a-eq-SHORT_LEAF.true)))

pub returns-then-e-a-eq-SHORT_LEAF : goal.returns-then-e-a-eq-SHORT_LEAF
returns-then-e-a-eq-SHORT_LEAF c =
    short_wrote _ _ _ _ _ c.requires c.if-m-eq1.true c.if-e-a-eq-SHORT_LEAF.true _ _ (omega arith) (omega arith)
