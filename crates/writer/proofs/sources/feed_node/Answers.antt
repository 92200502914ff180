-- One premise a turn: the edges so far and what follows from premise i on make up the whole.
use Rattle.writer.specs.Sources.Laws.{feeding_as, at_premise, node_done, edges_small}
use Rattle.facts.specs.Owed.{room_kept}
use Rattle.steps.specs.Table.Laws.{node_in}
use Rattle.lists.specs.Choice.{clash}
use Prim.Native.Nat.{◌+◌}
use mathlib.Core.Path.{◌≡◌}
use native.Mathlib.Omega.{arith}
use borrow.Author.Rules.{rules}
use Rattle.writer.proofs.sources.feed_node.Goals as goal

pub fact_count-count-requires : goal.fact_count-count-requires
fact_count-count-requires c =
    let (P, xs, h) = c.requires.0 in ((_, P, _, node_in h.right.stand _ h.inside), omega arith)

pub loop-i-init : goal.loop-i-init
loop-i-init c =
    (search rules, search rules, search rules, λ P xs h. feeding_as h (omega arith))

pub overflow_add-e : goal.overflow_add-e
overflow_add-e c =
    let (P, xs, h) = c.requires.0 in omega (arith, edges_small (c.loop-i.invariant.3 P xs h) _ c.fact_count-count.ensures)

pub feed_premise-requires : goal.feed_premise-requires
feed_premise-requires c =
    let (P, xs, h) = c.requires.0 in (
      (P, xs, at_premise (c.loop-i.invariant.3 P xs h) _ c.fact_count-count.ensures c.loop-i-test.true),
      room_kept _ _ _
          c.loop-i.invariant.0 c.requires.1,
    )

pub loop-i-preserved : goal.loop-i-preserved
loop-i-preserved c = (
  search rules,
  search rules,
  search rules,
  λ P xs h. feeding_as ((c.feed_premise.ensures P xs
      (at_premise (c.loop-i.invariant.3 P xs h) _ c.fact_count-count.ensures c.loop-i-test.true)).fed c.if-not-feed_premise.false) (omega arith),
)

pub returns-then-not-feed_premise : goal.returns-then-not-feed_premise
returns-then-not-feed_premise c =
    λ P xs h. record {
      fed = λ m z. clash (cc);
      unfed = λ z. (c.feed_premise.ensures P xs
          (at_premise (c.loop-i.invariant.3 P xs h) _ c.fact_count-count.ensures c.loop-i-test.true)).unfed c.if-not-feed_premise.true;
    }

pub overflow_add-result : goal.overflow_add-result
overflow_add-result c =
    let (P, xs, h) = c.requires.0 in omega
    (arith, edges_small (c.loop-i.invariant.3 P xs h) _ c.fact_count-count.ensures, c.loop-i-test.false)

pub returns : goal.returns
returns c =
    λ P xs h. let l : c.loop-i.i ≡ c.fact_count-count.result = omega (arith, c.loop-i-test.false) in let f =
    node_done (c.loop-i.invariant.3 P xs h) _ c.fact_count-count.ensures l in record {
      fed = λ m z. feeding_as f (let y : c.args.e + c.fact_count-count.result ≡ m = cc in omega arith);
      unfed = λ z. clash (cc);
    }
