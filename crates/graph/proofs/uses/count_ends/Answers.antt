-- The invariant is that each byte counts the ends among the first j edges, capped at 2; each turn adds one end.
use native.Mathlib.Omega.{arith}
use lib.ListN.{length, length-set}
use mathlib.Core.Path.{◌≡◌, sym, subst}
use Rattle.graph.specs.Uses.Laws.{counted_none, counted_more}
use Rattle.graph.specs.Uses.{Counted}
use Rattle.graph.proofs.uses.count_ends.Goals as goal

pub loop-j-init : goal.loop-j-init
loop-j-init c = (
  omega (arith, c.clear.auto.out),
  subst (Counted c.args.edges.now 0 c.args.field)
      (sym c.clear.ensures) (counted_none c.args.edges.now c.args.field (length c.args.counts.now)),
)

pub overflow_mul-j : goal.overflow_mul-j
overflow_mul-j c =
    omega (arith, c.requires.listed c.loop-j.j c.loop-j-test.true)

pub overflow_add-j : goal.overflow_add-j
overflow_add-j c =
    omega (arith, c.requires.listed c.loop-j.j c.loop-j-test.true)

pub count_place-at-requires : goal.count_place-at-requires
count_place-at-requires c =
    (c.requires.listed c.loop-j.j c.loop-j-test.true, c.requires.inside c.loop-j.j c.loop-j-test.true)

pub bounds-counts-at : goal.bounds-counts-at
bounds-counts-at c =
    omega (
      arith,
      c.loop-j.invariant.0,
      c.count_place-at.ensures,
      c.requires.counted c.loop-j.j c.loop-j-test.true,
    )

pub bounds-counts-at-in-loop-j : goal.bounds-counts-at-in-loop-j
bounds-counts-at-in-loop-j c =
    omega (
      arith,
      c.loop-j.invariant.0,
      c.count_place-at.ensures,
      c.requires.counted c.loop-j.j c.loop-j-test.true,
    )

pub loop-j-preserved : goal.loop-j-preserved
loop-j-preserved c = (
  simp length-set c.loop-j.invariant.0,
  counted_more c.args.edges.now c.args.field c.loop-j.j c.loop-j.counts
      (c.requires.inside c.loop-j.j c.loop-j-test.true) c.loop-j.invariant.1 _ _ c.count_place-at.ensures
      c.one_more.ensures,
)

pub shape_of-counts : goal.shape_of-counts
shape_of-counts c =
    omega (arith, c.loop-j.invariant.0, c.clear.auto.out)

pub returns : goal.returns
returns c =
    let e : c.loop-j.j ≡ c.args.m = omega (arith, c.loop-j-test.false) in
    subst (λ n. Counted c.args.edges.now n c.args.field c.loop-j.counts) e c.loop-j.invariant.1
