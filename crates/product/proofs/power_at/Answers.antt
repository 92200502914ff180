-- The exponent's product is made behind all, then base and product are moved down behind the tag; an empty one leaves the base alone.
use Rattle.product.proofs.PowerPaths.{power_asks, power_order, power_end, powered_none, powered_some}
use mathlib.Core.Path.{refl}
use native.Mathlib.Omega.{arith}
use Rattle.product.proofs.power_at.Goals as goal

pub write_product-n-requires : goal.write_product-n-requires
write_product-n-requires c =
    let r = c.args in power_asks r.arities.now r.out.now r.o r.b r.z r.k r.e c.requires

pub overflow_sub-z : goal.overflow_sub-z
overflow_sub-z c =
    let r = c.args in let z = power_order r.arities.now r.out.now r.o r.b r.z r.k r.e c.requires in let n = power_end r.arities.now
    r.out.now r.o r.b r.z r.k r.e _ _ c.write_product-n.ensures c.write_product-n.auto.out c.requires in omega
    (arith, c.write_product-n.auto.out)

pub copy_within-requires : goal.copy_within-requires
copy_within-requires c =
    let r = c.args in let z = power_order r.arities.now r.out.now r.o r.b r.z r.k r.e c.requires in let n = power_end r.arities.now
    r.out.now r.o r.b r.z r.k r.e _ _ c.write_product-n.ensures c.write_product-n.auto.out c.requires in
    (omega (arith, c.write_product-n.auto.out), omega (arith, c.write_product-n.auto.out))

pub overflow_sub-result : goal.overflow_sub-result
overflow_sub-result c =
    let r = c.args in let z = power_order r.arities.now r.out.now r.o r.b r.z r.k r.e c.requires in let n = power_end
    r.arities.now r.out.now r.o r.b r.z r.k r.e _ _ c.write_product-n.ensures c.write_product-n.auto.out c.requires in omega
    arith

pub overflow_add-result : goal.overflow_add-result
overflow_add-result c =
    let r = c.args in let z = power_order r.arities.now r.out.now r.o r.b r.z r.k r.e c.requires in let n = power_end
    r.arities.now r.out.now r.o r.b r.z r.k r.e _ _ c.write_product-n.ensures c.write_product-n.auto.out c.requires in omega
    (arith, c.write_product-n.auto.out, c.copy_within.auto.out)

pub returns-then-n-e : goal.returns-then-n-e
returns-then-n-e c =
    let r = c.args in powered_none r.arities.now r.out.now r.o r.b r.z r.k r.e _ _ c.write_product-n.ensures
    c.write_product-n.auto.out c.if-n-e.true _ c.copy_within.ensures

pub overflow_add-o : goal.overflow_add-o
overflow_add-o c =
    let r = c.args in let z = power_order r.arities.now r.out.now r.o r.b r.z r.k r.e c.requires in let n = power_end r.arities.now
    r.out.now r.o r.b r.z r.k r.e _ _ c.write_product-n.ensures c.write_product-n.auto.out c.requires in omega
    (arith, c.write_product-n.auto.out)

pub overflow_sub-z-2 : goal.overflow_sub-z-2
overflow_sub-z-2 c =
    let r = c.args in let z = power_order r.arities.now r.out.now r.o r.b r.z r.k r.e c.requires in let n = power_end r.arities.now
    r.out.now r.o r.b r.z r.k r.e _ _ c.write_product-n.ensures c.write_product-n.auto.out c.requires in omega
    (arith, c.write_product-n.auto.out)

pub copy_within-requires-2 : goal.copy_within-requires-2
copy_within-requires-2 c =
    let r = c.args in let z = power_order r.arities.now r.out.now r.o r.b r.z r.k r.e c.requires in let n = power_end r.arities.now
    r.out.now r.o r.b r.z r.k r.e _ _ c.write_product-n.ensures c.write_product-n.auto.out c.requires in
    (omega (arith, c.write_product-n.auto.out), omega (arith, c.write_product-n.auto.out))

pub overflow_add-y : goal.overflow_add-y
overflow_add-y c =
    let r = c.args in let z = power_order r.arities.now r.out.now r.o r.b r.z r.k r.e c.requires in let n = power_end
    r.arities.now r.out.now r.o r.b r.z r.k r.e _ _ c.write_product-n.ensures c.write_product-n.auto.out c.requires in omega
    (arith, c.write_product-n.auto.out, c.copy_within-2.auto.out)

pub overflow_sub-y : goal.overflow_sub-y
overflow_sub-y c =
    let r = c.args in let z = power_order r.arities.now r.out.now r.o r.b r.z r.k r.e c.requires in let n = power_end
    r.arities.now r.out.now r.o r.b r.z r.k r.e _ _ c.write_product-n.ensures c.write_product-n.auto.out c.requires in omega
    (arith, c.write_product-n.auto.out, c.copy_within-2.auto.out)

pub overflow_add-y-2 : goal.overflow_add-y-2
overflow_add-y-2 c =
    let r = c.args in let z = power_order r.arities.now r.out.now r.o r.b r.z r.k r.e c.requires in let n = power_end
    r.arities.now r.out.now r.o r.b r.z r.k r.e _ _ c.write_product-n.ensures c.write_product-n.auto.out c.requires in omega
    (arith, c.write_product-n.auto.out, c.copy_within-2.auto.out)

pub overflow_sub-n : goal.overflow_sub-n
overflow_sub-n c =
    let r = c.args in let z = power_order r.arities.now r.out.now r.o r.b r.z r.k r.e c.requires in let n = power_end
    r.arities.now r.out.now r.o r.b r.z r.k r.e _ _ c.write_product-n.ensures c.write_product-n.auto.out c.requires in omega
    (arith, c.write_product-n.auto.out, c.copy_within-2.auto.out)

pub copy_within-requires-3 : goal.copy_within-requires-3
copy_within-requires-3 c =
    let r = c.args in let z = power_order r.arities.now r.out.now r.o r.b r.z r.k r.e c.requires in let n = power_end
    r.arities.now r.out.now r.o r.b r.z r.k r.e _ _ c.write_product-n.ensures c.write_product-n.auto.out c.requires in
    (omega (arith, c.copy_within-2.auto.out), omega (arith, c.copy_within-2.auto.out))

pub overflow_sub-result-2 : goal.overflow_sub-result-2
overflow_sub-result-2 c =
    let r = c.args in let z = power_order r.arities.now r.out.now r.o r.b r.z r.k r.e c.requires in let n = power_end
    r.arities.now r.out.now r.o r.b r.z r.k r.e _ _ c.write_product-n.ensures c.write_product-n.auto.out c.requires in omega
    (arith, c.write_product-n.auto.out, c.copy_within-2.auto.out, c.copy_within-3.auto.out)

pub overflow_add-result-2 : goal.overflow_add-result-2
overflow_add-result-2 c =
    let r = c.args in let z = power_order r.arities.now r.out.now r.o r.b r.z r.k r.e c.requires in let n = power_end
    r.arities.now r.out.now r.o r.b r.z r.k r.e _ _ c.write_product-n.ensures c.write_product-n.auto.out c.requires in omega
    (arith, c.write_product-n.auto.out, c.copy_within-2.auto.out, c.copy_within-3.auto.out)

pub returns : goal.returns
returns c =
    let r = c.args in powered_some r.arities.now r.out.now r.o r.b r.z r.k r.e _ _ c.write_product-n.ensures
    c.write_product-n.auto.out c.if-n-e.false _ c.copy_within-2.ensures c.copy_within-2.auto.out _ _ refl
    c.copy_within-3.ensures
