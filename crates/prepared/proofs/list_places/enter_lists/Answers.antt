-- Each list stands behind the one before, and is entered behind its entries; the body and the earlier rows stay.
use lib.Seq.{length-take-le}
use native.Mathlib.Omega.{arith}
use mathlib.Core.Path.{refl, ap, sym, ◌∙◌, subst}
use mathlib.Core.List.{List}
use Prim.Native.Nat.{ℕ}
use Rattle.lists.specs.Asks.{Asks}
use Rattle.protocol.specs.Places.{At, place_of}
use Rattle.prepared.specs.Sections.{body_length}
use Rattle.prepared.specs.Prepared.Longer.{front_bytes}
use Rattle.prepared.specs.Prepared.{body_of, prepared_facts}
use Rattle.prepared.specs.Lists.Numbers.{premises_of, actions_of_lem, conclusions_of, list_asked, lists_more}
use Rattle.prepared.proofs.list_places.enter_lists.Goals as goal

pub slice_bounds-list_at-end-2 : goal.slice_bounds-list_at-end-2
slice_bounds-list_at-end-2 c =
    sym (length-take-le body_length c.args.p.now (omega (arith, c.requires.1)))

pub list_at-premises-requires : goal.list_at-premises-requires
list_at-premises-requires c =
    let n = length-take-le body_length c.args.p.now (omega (arith, c.requires.1)) in (omega (arith, n), omega (arith, n))

pub enter_list-actions-requires : goal.enter_list-actions-requires
enter_list-actions-requires c =
    (omega (arith, c.requires.0), c.requires.1, list_asked c.requires.2 0 _ (premises_of c.requires.2 _ c.list_at-premises.ensures))

pub enter_list-conclusions-requires : goal.enter_list-conclusions-requires
enter_list-conclusions-requires c = (
  omega (arith, c.requires.0),
  omega (arith, c.enter_list-actions.auto, c.requires.1),
  subst (λ (b : List ℕ). Asks (At (prepared_facts b) c.enter_list-actions.result))
      (sym c.enter_list-actions.ensures.done.body) (list_asked c.requires.2 1 _ (actions_of_lem c.requires.2 _ c.list_at-premises.ensures _
      c.enter_list-actions.ensures.behind)),
)

pub enter_last-requires : goal.enter_last-requires
enter_last-requires c =
    let e = c.enter_list-actions.ensures.done.body in (
      omega (arith, c.requires.0),
      omega (arith, c.enter_list-actions.auto, c.enter_list-conclusions.auto, c.requires.1),
      subst
          (λ (b : List ℕ). Asks (At (prepared_facts b) c.enter_list-conclusions.result)) (sym (c.enter_list-conclusions.ensures.done.body ∙ e))
          (list_asked c.requires.2 2 _ (conclusions_of c.requires.2 _ c.list_at-premises.ensures _ c.enter_list-actions.ensures.behind _
          (c.enter_list-conclusions.ensures.behind ∙ ap (λ (b : List ℕ). place_of (prepared_facts b c.enter_list-actions.result)) e))),
    )

pub returns : goal.returns
returns c =
    let e = c.enter_list-actions.ensures.done.body in lists_more (body_of c.args.p.now)
    (front_bytes c.args.p.now (λ k. (c.slice_known-1.given k).fits) (omega (arith, c.requires.1)))
    (length-take-le body_length c.args.p.now (omega (arith, c.requires.1))) c.args.n _ _ _
    (premises_of c.requires.2 _ c.list_at-premises.ensures) (actions_of_lem c.requires.2 _ c.list_at-premises.ensures _ c.enter_list-actions.ensures.behind)
    (conclusions_of c.requires.2 _ c.list_at-premises.ensures _ c.enter_list-actions.ensures.behind _
    (c.enter_list-conclusions.ensures.behind ∙ ap (λ (b : List ℕ). place_of (prepared_facts b c.enter_list-actions.result)) e)) c.args.p.now _ _ _ refl
    c.enter_list-actions.ensures.done c.enter_list-conclusions.ensures.done c.enter_last.ensures
