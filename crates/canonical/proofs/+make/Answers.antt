-- By the first symbol: a leaf is filled in, a function is closed over its made arguments; then the terms behind. What is left to read falls.
use Rattle.canonical.proofs.Functions.{tag_asks, args_asks, close_asks, onward, rest_asks, op_done}
use Rattle.canonical.proofs.Writes.{number_small}
use Rattle.canonical.proofs.Making.{none_done, ahead, leaf_asks, leaf_next, leaf_done}
use mathlib.Core.Path.{refl, ap, ◌∙◌}
use Rattle.canonical.specs.First.{place_behind}
use native.Mathlib.Omega.{arith}
use Rattle.canonical.proofs.+make.Goals as goal

pub returns-then-k-eq0 : goal.returns-then-k-eq0
returns-then-k-eq0 t c =
    none_done _ _ _ _ _ _ _ _ _ c.if-k-eq0.true

pub put_leaf-r-requires : goal.put_leaf-r-requires
put_leaf-r-requires t c =
    leaf_asks _ _ _ _ _ _ c.args.out.now _ _ _ _ _ c.first.ensures c.if-k-eq0.false c.in-Leaf.is c.requires

pub returns-then-k-eq1 : goal.returns-then-k-eq1
returns-then-k-eq1 t c =
    leaf_done _ _ _ _ _ _ c.args.out.now _ _ _ _ _ c.first.ensures c.if-k-eq0.false c.in-Leaf.is _ _ c.put_leaf-r.auto.out
    c.put_leaf-r.ensures _ _ refl _ _ _ (none_done _ _ _ _ _ _ _ _ _ (omega (arith, c.if-k-eq1.true)))

pub make-requires : goal.make-requires
make-requires t c =
    let a = ahead _ _ _ _ _ _ _ _ _ _ c.first.ensures c.if-k-eq0.false (ap place_behind c.in-Leaf.is) c.requires in (
      omega (arith, a.0, a.1, c.requires-raw.0),
      leaf_next _ _ _ _ _ _ c.args.out.now _ _ _ _ _ c.first.ensures c.if-k-eq0.false c.in-Leaf.is _
          _ c.put_leaf-r.auto.out c.put_leaf-r.ensures c.requires,
    )

pub returns-else-k-eq1 : goal.returns-else-k-eq1
returns-else-k-eq1 t c =
    leaf_done _ _ _ _ _ _ c.args.out.now _ _ _ _ _ c.first.ensures c.if-k-eq0.false c.in-Leaf.is _ _ c.put_leaf-r.auto.out
    c.put_leaf-r.ensures _ _ c.beside.ensures _ _ _ c.make.ensures

pub overflow_cast-tag : goal.overflow_cast-tag
overflow_cast-tag t c =
    omega (arith, number_small _ (tag_asks _ _ _ _ _ _ c.args.out.now _ _ _ _ _ c.first.ensures c.if-k-eq0.false c.in-Op.is c.requires).0)

pub put_number-a-requires : goal.put_number-a-requires
put_number-a-requires t c =
    (tag_asks _ _ _ _ _ _ c.args.out.now _ _ _ _ _ c.first.ensures c.if-k-eq0.false c.in-Op.is c.requires).1

pub make-args-requires : goal.make-args-requires
make-args-requires t c =
    let a = ahead _ _ _ _ _ _ _ _ _ _ c.first.ensures c.if-k-eq0.false (ap place_behind c.in-Op.is) c.requires in (
      omega (arith, a.0, a.1, c.requires-raw.0),
      args_asks _ _ _ _ _ _ c.args.out.now _ _ _ _ _ c.first.ensures c.if-k-eq0.false c.in-Op.is _
          _ c.put_number-a.auto.out c.put_number-a.ensures c.requires,
    )

pub close-r-requires : goal.close-r-requires
close-r-requires t c =
    close_asks _ _ _ _ _ _ c.args.out.now _ _ _ _ _ c.first.ensures c.if-k-eq0.false c.in-Op.is _ _ c.put_number-a.auto.out
    c.put_number-a.ensures _ _ _ (c.make-args.auto.out ∙ c.put_number-a.auto.out) c.make-args.ensures c.requires

pub returns-then-k-eq1-2 : goal.returns-then-k-eq1-2
returns-then-k-eq1-2 t c =
    op_done _ _ _ _ _ _ c.args.out.now _ _ _ _ _ c.first.ensures c.if-k-eq0.false c.in-Op.is _ _ c.put_number-a.auto.out
    c.put_number-a.ensures _ _ _ (c.make-args.auto.out ∙ c.put_number-a.auto.out) c.make-args.ensures _ _ _
    (c.close-r.auto.out ∙ c.make-args.auto.out ∙ c.put_number-a.auto.out) c.close-r.ensures _ refl _ _ _
    (none_done _ _ _ _ _ _ _ _ _ (omega (arith, c.if-k-eq1-2.true)))

pub make-requires-in-Op : goal.make-requires-in-Op
make-requires-in-Op t c =
    let a = ahead _ _ _ _ _ _ _ _ _ _ c.first.ensures c.if-k-eq0.false (ap place_behind c.in-Op.is) c.requires in let b = onward _ _ _ _ _ _ c.args.out.now _ _ _ _ _
    c.first.ensures c.if-k-eq0.false c.in-Op.is _ _ c.put_number-a.auto.out c.put_number-a.ensures _ _ _
    (c.make-args.auto.out ∙ c.put_number-a.auto.out) c.make-args.ensures c.requires in (
      omega (arith, a.1, b, c.requires-raw.0),
      rest_asks _ _ _ _ _ _ c.args.out.now _ _ _ _ _ c.first.ensures c.if-k-eq0.false c.in-Op.is _
          _ c.put_number-a.auto.out c.put_number-a.ensures _ _ _ (c.make-args.auto.out ∙ c.put_number-a.auto.out) c.make-args.ensures _ _ _
          (c.close-r.auto.out ∙ c.make-args.auto.out ∙ c.put_number-a.auto.out) c.close-r.ensures c.requires,
    )

pub returns-else-k-eq1-2 : goal.returns-else-k-eq1-2
returns-else-k-eq1-2 t c =
    op_done _ _ _ _ _ _ c.args.out.now _ _ _ _ _ c.first.ensures c.if-k-eq0.false c.in-Op.is _ _ c.put_number-a.auto.out
    c.put_number-a.ensures _ _ _ (c.make-args.auto.out ∙ c.put_number-a.auto.out) c.make-args.ensures _ _ _
    (c.close-r.auto.out ∙ c.make-args.auto.out ∙ c.put_number-a.auto.out) c.close-r.ensures _ c.beside-in-Op.ensures _ _ _
    c.make-in-Op.ensures
