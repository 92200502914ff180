-- The invariant is that the first e actions are numbered; each turn numbers one action's places.
use borrow.Author.Rules.{rules}
use native.Mathlib.Omega.{arith}
use Rattle.facts.specs.Owed.{room_kept}
use Rattle.trace.specs.Entries.Laws.{total_few}
use Rattle.trace.specs.Numbers.Places.{numbered_none, numbered_at, listed_action}
use Rattle.trace.proofs.numbers.number_actions.Goals as goal

pub loop-e-init : goal.loop-e-init
loop-e-init c =
    (search rules, search rules, λ P xs a. numbered_at _ _ (omega arith) numbered_none)

pub number_action-requires : goal.number_action-requires
number_action-requires c =
    let (P, xs, a) = c.requires.0 in (
      (P, xs, listed_action a.listed _ (omega (arith, a.count, c.loop-e.auto.e-end)) _ c.action_of-x.ensures),
      room_kept _ _ _
          c.loop-e.invariant.0 c.requires.1,
      omega (arith, total_few a, c.loop-e.auto.e-end),
      omega (arith, c.loop-e.invariant.1, c.requires.2, c.loop-e.auto.e-end),
    )

pub loop-e-preserved : goal.loop-e-preserved
loop-e-preserved c = (
  search rules,
  search rules,
  λ P xs a. c.number_action.ensures P xs
      (listed_action a.listed _ (omega (arith, a.count, c.loop-e.auto.e-end)) _ c.action_of-x.ensures) (c.loop-e.invariant.2 P xs a),
)

pub returns : goal.returns
returns c =
    λ P xs a. numbered_at _ _ (omega arith) (c.loop-e.invariant.2 P xs a)
