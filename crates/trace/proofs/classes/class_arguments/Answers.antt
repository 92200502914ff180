-- The first numbers are made, and of them the classes, over chains of a fit size; without actions there is nothing to make.
use Rattle.trace.specs.Classes.Exact.{ready, classes_none}
use Rattle.trace.specs.Chains.Laws.{few_behind, most_behind}
use Rattle.trace.specs.Entries.Laws.{total_few}
use Rattle.facts.specs.Owed.{room_kept, room_start}
use Rattle.std.proofs.Common.{sym, eqb-true}
use native.Mathlib.Omega.{arith}
use Rattle.trace.proofs.classes.class_arguments.Goals as goal

pub returns-then-is_empty : goal.returns-then-is_empty
returns-then-is_empty c =
    λ P xs a. classes_none (eqb-true _ 0 (sym c.if-is_empty.ensures))

pub number_actions-requires : goal.number_actions-requires
number_actions-requires c =
    (c.requires.0, room_start c.requires.1, c.requires.2)

pub class_with-requires : goal.class_with-requires
class_with-requires c =
    let (P, xs, a) = c.requires.0 in (
      (P, xs, ready a (c.number_actions.ensures P xs a)),
      room_kept _ _ _ c.work-1.given c.requires.1,
      omega (arith, c.classes-1.given, c.requires.2),
      few_behind (omega (arith, c.if-entries-le-FEW_ACTIONS.true)),
      omega arith,
    )

pub class_with-requires-else-entries-le-FEW_ACTIONS : goal.class_with-requires-else-entries-le-FEW_ACTIONS
class_with-requires-else-entries-le-FEW_ACTIONS c =
    let (P, xs, a) = c.requires.0 in (
      (P, xs, ready a (c.number_actions.ensures P xs a)),
      room_kept _ _ _ c.work-1.given c.requires.1,
      omega (arith, c.classes-1.given, c.requires.2),
      most_behind (omega (arith, total_few a)),
      omega arith,
    )

pub returns-then-entries-le-FEW_ACTIONS : goal.returns-then-entries-le-FEW_ACTIONS
returns-then-entries-le-FEW_ACTIONS c =
    λ P xs a. c.class_with.ensures P xs (ready a (c.number_actions.ensures P xs a))

pub returns-else-entries-le-FEW_ACTIONS : goal.returns-else-entries-le-FEW_ACTIONS
returns-else-entries-le-FEW_ACTIONS c =
    λ P xs a. c.class_with-else-entries-le-FEW_ACTIONS.ensures P xs (ready a (c.number_actions.ensures P xs a))
