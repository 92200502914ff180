-- By the first symbol: behind a leaf the other terms are left, behind a function's tag its arguments and the other terms.
use Rattle.canonical.proofs.Plain.{leaf_goes, op_goes, op_few}
use Rattle.canonical.proofs.Functions.{tag_asks}
use Rattle.canonical.proofs.Writes.{number_small}
use Rattle.canonical.proofs.Making.{ahead, leaf_asks}
use lib.ListN.{length}
use mathlib.Core.Path.{ap}
use Rattle.canonical.specs.First.{place_behind}
use native.Mathlib.Omega.{arith}
use Rattle.canonical.proofs.put_symbol.Goals as goal

pub put_leaf-r-requires : goal.put_leaf-r-requires
put_leaf-r-requires c =
    leaf_asks _ _ _ _ _ _ c.args.out.now _ _ _ _ _ c.first.ensures (λ z. omega (arith, c.requires.0, z)) c.in-Leaf.is
    c.requires.1

pub returns-in-Leaf : goal.returns-in-Leaf
returns-in-Leaf c =
    let F = c.first.ensures in
    let a = ahead _ _ _ _ _ _ (length c.args.out.now) _ _ _ F (λ z. omega (arith, c.requires.0, z)) (ap place_behind c.in-Leaf.is) c.requires.1 in (
      a.0,
      a.1,
      leaf_goes _ _ _ _ _ _ c.args.out.now _ _ _ _ _ F (λ z. omega (arith, c.requires.0, z)) c.in-Leaf.is _ _
          c.put_leaf-r.auto.out c.put_leaf-r.ensures,
    )

pub overflow_cast-tag : goal.overflow_cast-tag
overflow_cast-tag c =
    omega (arith, number_small _ (tag_asks _ _ _ _ _ _ c.args.out.now _ _ _ _ _ c.first.ensures (λ z. omega (arith, c.requires.0, z)) c.in-Op.is c.requires.1).0)

pub put_number-r-requires : goal.put_number-r-requires
put_number-r-requires c =
    (tag_asks _ _ _ _ _ _ c.args.out.now _ _ _ _ _ c.first.ensures (λ z. omega (arith, c.requires.0, z)) c.in-Op.is c.requires.1).1

pub overflow_add-result : goal.overflow_add-result
overflow_add-result c =
    let f = op_few _ _ _ _ _ _ c.args.out.now _ _ _ _ _ c.first.ensures (λ z. omega (arith, c.requires.0, z)) c.in-Op.is _ _
    c.put_number-r.auto.out c.put_number-r.ensures c.requires.1 in
    omega (arith, f)

pub returns-in-Op : goal.returns-in-Op
returns-in-Op c =
    let F = c.first.ensures in
    let a = ahead _ _ _ _ _ _ (length c.args.out.now) _ _ _ F (λ z. omega (arith, c.requires.0, z)) (ap place_behind c.in-Op.is) c.requires.1 in (
      a.0,
      a.1,
      op_goes _ _ _ _ _ _ c.args.out.now _ _ _ _ _ F (λ z. omega (arith, c.requires.0, z)) c.in-Op.is _ _ c.put_number-r.auto.out
          c.put_number-r.ensures,
    )
