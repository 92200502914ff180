-- The invariant is that the actions up to from + i are entered; each turn enters the code of one.
use borrow.Author.Rules.{rules}
use Rattle.trace.specs.Entries.Laws.{begun_node, begun_more, begun_first, inside, bounds, end_small, node_entered}
use Rattle.steps.specs.Nodes.{no_node}
use lib.ListN.{get_or}
use native.Mathlib.Omega.{arith}
use Rattle.trace.proofs.entries.enter_actions.Goals as goal

pub fact_count-count-requires : goal.fact_count-count-requires
fact_count-count-requires c =
    let (s, P, xs, b) = c.requires.0 in
    ((s, P, get_or xs c.args.k no_node, begun_node b), omega arith)

pub loop-i-init : goal.loop-i-init
loop-i-init c =
    (search rules, λ s P xs b. begun_first b)

pub overflow_mul-entries : goal.overflow_mul-entries
overflow_mul-entries c =
    omega (arith, bounds c.requires.0.3 _ c.fact_count-count.ensures _ c.loop-i-test.true)

pub overflow_add-entries : goal.overflow_add-entries
overflow_add-entries c =
    omega (arith, bounds c.requires.0.3 _ c.fact_count-count.ensures _ c.loop-i-test.true)

pub overflow_cast-entries : goal.overflow_cast-entries
overflow_cast-entries c =
    omega (arith, bounds c.requires.0.3 _ c.fact_count-count.ensures _ c.loop-i-test.true)

pub overflow_add-entries-in-loop-i : goal.overflow_add-entries-in-loop-i
overflow_add-entries-in-loop-i c =
    omega (arith, bounds c.requires.0.3 _ c.fact_count-count.ensures _ c.loop-i-test.true)

pub offset_bounds-entries-from : goal.offset_bounds-entries-from
offset_bounds-entries-from c =
    omega (arith, bounds c.requires.0.3 _ c.fact_count-count.ensures _ c.loop-i-test.true)

pub bounds-entries-from : goal.bounds-entries-from
bounds-entries-from c =
    omega (arith, bounds c.requires.0.3 _ c.fact_count-count.ensures _ c.loop-i-test.true, c.loop-i.invariant.0, c.requires.1)

pub loop-i-preserved : goal.loop-i-preserved
loop-i-preserved c = (
  search rules,
  λ s P xs b. begun_more b c.loop-i.i (inside b _ c.fact_count-count.ensures _ c.loop-i-test.true)
      (c.loop-i.invariant.1 s P xs b) (omega (arith, c.loop-i.invariant.0, c.requires.1)),
)

pub overflow_add-result : goal.overflow_add-result
overflow_add-result c =
    omega (arith, end_small c.requires.0.3 _ c.fact_count-count.ensures)

pub returns : goal.returns
returns c =
    λ s P xs b. node_entered b _ c.fact_count-count.ensures c.loop-i.i (omega arith)
    (c.loop-i.invariant.1 s P xs b)
