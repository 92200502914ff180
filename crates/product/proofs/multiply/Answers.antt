-- The product is made behind the term and moved down over it; where no factor is left, one is written.
use Rattle.product.proofs.ProductPaths.{multiply_asks, multiply_inside, multiply_end, multiplied_none, multiplied_some}
use mathlib.Core.Path.{refl}
use native.Mathlib.Omega.{arith}
use Rattle.product.proofs.multiply.Goals as goal

pub write_product-n-requires : goal.write_product-n-requires
write_product-n-requires c =
    let r = c.args in multiply_asks r.arities.now r.out.now r.o r.e c.requires

pub bounds-out-o : goal.bounds-out-o
bounds-out-o c =
    let r = c.args in let z = multiply_inside r.arities.now r.out.now r.o r.e c.requires in omega (arith, c.write_product-n.auto.out)

pub overflow_add-result : goal.overflow_add-result
overflow_add-result c =
    let r = c.args in let z = multiply_inside r.arities.now r.out.now r.o r.e c.requires in omega arith

pub returns-then-n-e : goal.returns-then-n-e
returns-then-n-e c =
    let r = c.args in multiplied_none r.arities.now r.out.now r.o r.e _ _ c.write_product-n.ensures c.write_product-n.auto.out
    c.if-n-e.true

pub overflow_sub-n : goal.overflow_sub-n
overflow_sub-n c =
    let r = c.args in let z = multiply_inside r.arities.now r.out.now r.o r.e c.requires in let n = multiply_end r.arities.now r.out.now
    r.o r.e _ _ c.write_product-n.ensures c.write_product-n.auto.out c.requires in omega arith

pub copy_within-requires : goal.copy_within-requires
copy_within-requires c =
    let r = c.args in let z = multiply_inside r.arities.now r.out.now r.o r.e c.requires in let n = multiply_end r.arities.now r.out.now
    r.o r.e _ _ c.write_product-n.ensures c.write_product-n.auto.out c.requires in (omega arith, omega arith)

pub overflow_sub-result : goal.overflow_sub-result
overflow_sub-result c =
    let r = c.args in let z = multiply_inside r.arities.now r.out.now r.o r.e c.requires in let n = multiply_end r.arities.now
    r.out.now r.o r.e _ _ c.write_product-n.ensures c.write_product-n.auto.out c.requires in omega arith

pub overflow_add-result-2 : goal.overflow_add-result-2
overflow_add-result-2 c =
    let r = c.args in let z = multiply_inside r.arities.now r.out.now r.o r.e c.requires in let n = multiply_end r.arities.now
    r.out.now r.o r.e _ _ c.write_product-n.ensures c.write_product-n.auto.out c.requires in omega
    (arith, c.copy_within.auto.out)

pub returns : goal.returns
returns c =
    let r = c.args in multiplied_some r.arities.now r.out.now r.o r.e _ _ c.write_product-n.ensures c.write_product-n.auto.out
    c.if-n-e.false _ _ refl c.copy_within.ensures
