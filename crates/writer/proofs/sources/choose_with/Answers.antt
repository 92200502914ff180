-- One node a turn: the edges so far and what follows from node k on make up the whole, with the conclusions before k in the table.
use borrow.Author.Rules.{rules}
use native.Mathlib.Omega.{arith}
use mathlib.Core.Path.{◌≡◌, ap, ◌∙◌, subst}
use Rattle.rewriting.specs.Table.{refused}
use Prim.Native.Nat.{ℕ, suc, ◌+◌}
use Rattle.lists.specs.Choice.{clash}
use Rattle.facts.specs.Owed.{room_kept}
use Rattle.writer.specs.Sources.{Chosen}
use Rattle.writer.specs.Sources.Laws.{none_chosen, node_begun, node_entered, node_left, all_chosen}
use Rattle.writer.proofs.sources.choose_with.Goals as goal

pub loop-k-init : goal.loop-k-init
loop-k-init c =
    (search rules, search rules, search rules, λ P xs r. none_chosen r c.requires.3 c.requires.4 c.requires.2)

pub feed_node-requires : goal.feed_node-requires
feed_node-requires c =
    let (P, xs, r) = c.requires.0 in (
      (P, xs, node_begun (c.loop-k.invariant.3 P xs r) (omega (arith, r.stand.count, c.loop-k-test.true))),
      room_kept _ _ _
          c.loop-k.invariant.0 c.requires.1,
    )

pub enter_conclusions-requires : goal.enter_conclusions-requires
enter_conclusions-requires c =
    let (P, xs, r) = c.requires.0 in (
      (
        P,
        xs,
        node_entered ((c.feed_node.ensures P xs
            (node_begun (c.loop-k.invariant.3 P xs r) (omega (arith, r.stand.count, c.loop-k-test.true)))).fed _ c.in-Some.is),
      ),
      room_kept _ _ _
          (omega (arith, c.feed_node.auto, c.loop-k.invariant.0)) c.requires.1,
    )

pub loop-k-preserved : goal.loop-k-preserved
loop-k-preserved c = (
  omega (arith, c.feed_node.auto, c.enter_conclusions.auto, c.loop-k.invariant.0),
  omega (arith, c.feed_node.auto, c.loop-k.invariant.1),
  omega (arith, c.feed_node.auto, c.enter_conclusions.auto, c.loop-k.invariant.2),
  λ P xs r. let f =
      (c.feed_node.ensures P xs (node_begun (c.loop-k.invariant.3 P xs r) (omega (arith, r.stand.count, c.loop-k-test.true)))).fed _
      c.in-Some.is
      in node_left f (c.enter_conclusions.ensures P xs (node_entered f)),
)

pub returns-in_default : goal.returns-in_default
returns-in_default c =
    λ P xs r. record {
      fed = λ m z. clash (cc);
      unfed = λ j z. let y : suc c.loop-k.k ≡ j = (let x : c.loop-k.k + 1 ≡ j = cc in omega arith) in
          ((c.feed_node.ensures P xs (node_begun (c.loop-k.invariant.3 P xs r) (omega (arith, r.stand.count, c.loop-k-test.true)))).unfed
          c.in_default.is) ∙ ap (λ (i : ℕ). refused 14 i) y;
    }

pub returns : goal.returns
returns c =
    λ P xs r. record {
      fed = λ m z. let y : c.loop-k.e ≡ m = cc in subst (λ (i : ℕ). Chosen c.loop-k.edges i P xs) y
          (all_chosen (c.loop-k.invariant.3 P xs r) (omega (arith, r.stand.count, c.loop-k-test.false)));
      unfed = λ j z. clash (cc);
    }
