-- Together, the slice that is left falling: what is gathered and the pending terms' factors are all the terms' factors, and a turned sign negates.
use Rattle.factors.proofs.CollectPaths.{on_gone, turn_asks, turn_gone, leaf_gone, factor_gone}
use Rattle.factors.proofs.CollectPaths.{walk_first, walk_done, term_asks, walk_inside, walk_more, walk_next, mul_more, mul_next}
use Rattle.factors.proofs.EnterPaths.{leaf_asks, leaf_entered}
use mathlib.Core.Path.{refl, sym, ◌∙◌}
use native.Mathlib.Omega.{arith}
use Rattle.factors.proofs.+collect_one_term.Goals as goal

pub collect-loop-left-init : goal.collect-loop-left-init
collect-loop-left-init t c =
    let r = c.args in walk_first r.arities.now r.src.now r.entries.now r.n r.at r.k
    r.minus

pub collect-bounds-src-i : goal.collect-bounds-src-i
collect-bounds-src-i t c =
    let r = c.args in walk_inside r.arities.now r.src.now r.entries.now r.n r.at r.k r.minus _ _ _ _
    c.loop-left.invariant c.loop-left-test.true c.requires

pub collect-overflow_add-i : goal.collect-overflow_add-i
collect-overflow_add-i t c =
    let r = c.args in let w = walk_inside r.arities.now r.src.now r.entries.now r.n r.at r.k r.minus _ _ _ _
    c.loop-left.invariant c.loop-left-test.true c.requires in omega arith

pub collect-overflow_add-left : goal.collect-overflow_add-left
collect-overflow_add-left t c =
    let r = c.args in let w = mul_more r.arities.now r.src.now r.entries.now r.n r.at r.k r.minus _ _ _ _
    c.loop-left.invariant c.loop-left-test.true _ c.mul_takes-takes.ensures c.if-src-i-eq-MUL.true c.requires in omega (arith, w.0)

pub collect-loop-left-smaller-then-src-i-eq-MUL : goal.collect-loop-left-smaller-then-src-i-eq-MUL
collect-loop-left-smaller-then-src-i-eq-MUL t c =
    let r = c.args in let w = mul_more r.arities.now r.src.now r.entries.now r.n r.at r.k r.minus _ _ _ _
    c.loop-left.invariant c.loop-left-test.true _ c.mul_takes-takes.ensures c.if-src-i-eq-MUL.true c.requires in omega (arith, w.1)

pub collect-loop-left-preserved-then-src-i-eq-MUL : goal.collect-loop-left-preserved-then-src-i-eq-MUL
collect-loop-left-preserved-then-src-i-eq-MUL t c =
    let r = c.args in mul_next r.arities.now r.src.now r.entries.now r.n r.at r.k r.minus _ _ _ _ c.loop-left.invariant
    c.loop-left-test.true _ c.mul_takes-takes.ensures c.if-src-i-eq-MUL.true

pub collect-one_term-o-requires : goal.collect-one_term-o-requires
collect-one_term-o-requires t c =
    let r = c.args in term_asks r.arities.now r.src.now r.entries.now r.n r.at r.k r.minus _ _ _ _ c.loop-left.invariant
    c.loop-left-test.true t c.requires-raw.0 c.requires

pub collect-overflow_add-left-in-loop-left : goal.collect-overflow_add-left-in-loop-left
collect-overflow_add-left-in-loop-left t c =
    let r = c.args in let w = walk_more r.arities.now r.src.now r.entries.now r.n r.at r.k r.minus _ _ _ _
    c.loop-left.invariant c.loop-left-test.true _ _ c.one_term-o.auto.entries c.one_term-o.ensures c.requires in omega arith

pub collect-loop-left-smaller : goal.collect-loop-left-smaller
collect-loop-left-smaller t c =
    let r = c.args in let w = walk_more r.arities.now r.src.now r.entries.now r.n r.at r.k r.minus _ _ _ _
    c.loop-left.invariant c.loop-left-test.true _ _ c.one_term-o.auto.entries c.one_term-o.ensures c.requires in omega arith

pub collect-loop-left-preserved : goal.collect-loop-left-preserved
collect-loop-left-preserved t c =
    let r = c.args in let w = walk_more r.arities.now r.src.now r.entries.now r.n r.at r.k r.minus _ _ _ _
    c.loop-left.invariant c.loop-left-test.true _ _ c.one_term-o.auto.entries c.one_term-o.ensures c.requires in walk_next
    r.arities.now r.src.now r.entries.now r.n r.at r.k r.minus _ _ _ _ c.loop-left.invariant c.loop-left-test.true _ _
    c.one_term-o.auto.entries c.one_term-o.ensures w.1

pub collect-shape_of-entries : goal.collect-shape_of-entries
collect-shape_of-entries t c =
    c.loop-left.invariant.long

pub collect-returns : goal.collect-returns
collect-returns t c =
    let r = c.args in walk_done r.arities.now r.src.now r.entries.now r.n
    r.at r.k r.minus _ _ _ _ c.loop-left.invariant c.loop-left-test.false _ refl refl

pub one_term-way_there-requires : goal.one_term-way_there-requires
one_term-way_there-requires t c =
    let J = c.requires in (_, J.1, J.2.one)

pub one_term-collect-f-requires : goal.one_term-collect-f-requires
one_term-collect-f-requires t c =
    let r = c.args in turn_asks r.arities.now r.src.now r.entries.now r.put.n r.at r.minus c.in-Turn.c
    c.in-Turn.next (sym c.way_there.ensures ∙ c.in-Turn.is) t c.requires-raw.0 c.requires

pub one_term-enter_leaf-p-requires : goal.one_term-enter_leaf-p-requires
one_term-enter_leaf-p-requires t c =
    let r = c.args in leaf_asks r.arities.now r.src.now r.entries.now r.put.n r.at c.in-Leaf.e
    (sym c.way_there.ensures ∙ c.in-Leaf.is) c.requires

pub one_term-enter_at-requires : goal.one_term-enter_at-requires
one_term-enter_at-requires t c =
    c.requires

pub one_term-returns-in-On : goal.one_term-returns-in-On
one_term-returns-in-On t c =
    let r = c.args in on_gone r.arities.now r.src.now r.entries.now r.put.n r.at r.minus c.in-On.c
    c.in-On.next (sym c.way_there.ensures ∙ c.in-On.is) _ refl refl refl

pub one_term-returns-in-Turn : goal.one_term-returns-in-Turn
one_term-returns-in-Turn t c =
    let r = c.args in turn_gone r.arities.now r.src.now r.entries.now r.put.n r.at r.minus c.in-Turn.c
    c.in-Turn.next (sym c.way_there.ensures ∙ c.in-Turn.is) _ _ c.collect-f.ensures _ refl refl refl

pub one_term-returns-in-Leaf : goal.one_term-returns-in-Leaf
one_term-returns-in-Leaf t c =
    let r = c.args in leaf_gone r.arities.now r.src.now r.entries.now r.put.n r.at r.minus _ _
    (leaf_entered r.arities.now r.src.now r.entries.now r.put.n r.at c.in-Leaf.e
    (sym c.way_there.ensures ∙ c.in-Leaf.is) r.minus _ _ c.enter_leaf-p.ensures _ refl refl refl) c.in-Leaf.e
    (sym c.way_there.ensures ∙ c.in-Leaf.is)

pub one_term-returns-in-Factor : goal.one_term-returns-in-Factor
one_term-returns-in-Factor t c =
    let r = c.args in factor_gone r.arities.now r.src.now r.entries.now r.put.n r.at r.minus _ _ c.enter_at.ensures
    (sym c.way_there.ensures ∙ c.in-Factor.is)
