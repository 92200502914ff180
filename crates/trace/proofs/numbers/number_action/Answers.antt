-- The invariant is that the places up to 8e + j are numbered; each turn numbers one, a missing argument with the base.
use borrow.Author.Rules.{rules}
use Rattle.trace.specs.Numbers.Places.{action_counted, numbered_more, numbered_at}
use Rattle.trace.specs.Numbers.{argument_number}
use Rattle.facts.specs.Rules.{symbol_is}
use Rattle.facts.specs.Calls.Laws.{fact_listed, symbol_known, arity_is}
use Rattle.facts.specs.Owed.{room_kept}
use Rattle.protocol.specs.Protocol.{Fact}
use Rattle.steps.specs.Nodes.{no_node}
use mathlib.Core.Path.{ap, ◌∙◌}
use lib.ListN.{get_or}
use native.Mathlib.Omega.{arith}
use Rattle.trace.proofs.numbers.number_action.Goals as goal

pub fact_place-place-requires : goal.fact_place-place-requires
fact_place-place-requires c =
    let (P, xs, a) = c.requires.0 in (c.args.s.now, P, get_or xs c.args.x.node no_node, fact_listed a.whole)

pub symbol_of-y-requires : goal.symbol_of-y-requires
symbol_of-y-requires c =
    let (P, xs, a) = c.requires.0 in omega (arith, (fact_listed a.whole).node.prepared.long)

pub arity_of-count-requires : goal.arity_of-count-requires
arity_of-count-requires c =
    let (P, xs, a) = c.requires.0 in let f = fact_listed a.whole in (
      symbol_known f _ (symbol_is f.node _ _ f.listed _ _ c.fact_place-place.ensures c.symbol_of-y.ensures),
      omega
          (arith, f.node.prepared.long),
    )

pub loop-j-init : goal.loop-j-init
loop-j-init c =
    (search rules, search rules, λ P xs a t. numbered_at _ _ (omega arith) t)

pub place_number-requires : goal.place_number-requires
place_number-requires c =
    let (P, xs, a) = c.requires.0 in (
      c.fact_place-place.ensures,
      (
        P,
        get_or xs c.args.x.node no_node,
        action_counted a _
            (λ t Q m f. c.arity_of-count.ensures ∙ arity_is f _ (symbol_is f.node _ _ f.listed _ _ c.fact_place-place.ensures c.symbol_of-y.ensures)),
      ),
      room_kept _ _ _ c.loop-j.invariant.0 c.requires.1,
    )

pub overflow_mul-classes : goal.overflow_mul-classes
overflow_mul-classes c =
    omega (arith, c.requires.2)

pub overflow_add-classes : goal.overflow_add-classes
overflow_add-classes c =
    omega (arith, c.requires.2, c.loop-j-test.true)

pub offset_bounds-classes-e : goal.offset_bounds-classes-e
offset_bounds-classes-e c =
    omega (arith, c.requires.2, c.loop-j-test.true)

pub bounds-classes-e : goal.bounds-classes-e
bounds-classes-e c =
    omega (arith, c.requires.2, c.requires.3, c.loop-j.invariant.1, c.loop-j-test.true)

pub loop-j-preserved : goal.loop-j-preserved
loop-j-preserved c = (
  search rules,
  search rules,
  λ P xs a t. numbered_more c.args.e c.loop-j.j _ c.loop-j-test.true (c.loop-j.invariant.2 P xs a t)
      (omega (arith, c.requires.2, c.requires.3, c.loop-j.invariant.1, c.loop-j-test.true))
      (c.place_number.ensures P _ (action_counted a _ (λ t Q m f. c.arity_of-count.ensures ∙ arity_is f _
      (symbol_is f.node _ _ f.listed _ _ c.fact_place-place.ensures c.symbol_of-y.ensures))) ∙ ap (λ (g : Fact). argument_number g c.loop-j.j)
      a.is),
)

pub returns : goal.returns
returns c =
    λ P xs a t. numbered_at _ _ (omega arith) (c.loop-j.invariant.2 P xs a t)
