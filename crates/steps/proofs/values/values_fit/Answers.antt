-- The invariant is that sorts and values from v on decide; each turn tests one value against its variable's sort.
use Rattle.steps.specs.Values.Loops.{value_there, left_all, left_more, left_bad, left_none}
use Rattle.steps.specs.Values.Code.{room_kept}
use Rattle.steps.specs.Values.Parts.{no_term}
use Rattle.steps.specs.Values.Tests.{value_ok}
use Rattle.steps.specs.Table.Laws.{node_variables, node_sort}
use Rattle.prepared.specs.Prepared.Laws.{slots_length}
use Prim.Native.Nat.{ℕ, ◌<◌}
use mathlib.Core.Path.{ap, refl, sym, ◌∙◌}
use lib.ListN.{length, get_or}
use native.Mathlib.Omega.{arith}
use Rattle.steps.proofs.values.values_fit.Goals as goal

pub loop-v-init : goal.loop-v-init
loop-v-init c =
    let h = c.requires.1.2 in
    (refl, omega (arith, node_variables h c.args.place c.requires.2, h.row.few, c.requires.3), h.few, h.long, λ P x h. left_all h)

pub slice_bounds-value_ok-end : goal.slice_bounds-value_ok-end
slice_bounds-value_ok-end c =
    sym (slots_length c.args.p.now c.requires.1.2.prepared.body.long)

pub value_ok-requires : goal.value_ok-requires
value_ok-requires c =
    let (P, x, h) = c.requires.1 in
    let l : c.loop-v.v < length x.values = omega (arith, node_variables h c.args.place c.requires.2, c.requires.3) in
    (room_kept c.requires.0 c.loop-v.invariant.0, (get_or x.values c.loop-v.v no_term, value_there h c.requires.4 c.loop-v.v l))

pub loop-v-preserved : goal.loop-v-preserved
loop-v-preserved c = (
  omega (arith, c.value_ok.auto, c.loop-v.invariant.0),
  c.loop-v.invariant.1,
  c.loop-v.invariant.2,
  c.loop-v.invariant.3,
  λ P x h.
      let l : c.loop-v.v < length x.values = omega (arith, node_variables h c.args.place c.requires.2, c.requires.3) in
      left_more h c.loop-v.v l (c.loop-v.invariant.4 P x h) (ap (λ (i : ℕ). value_ok i (get_or x.values c.loop-v.v no_term))
      (sym (c.sort_of-sort.ensures ∙ node_sort h c.args.place c.requires.2 c.loop-v.v l)) ∙ sym
      (c.value_ok.ensures _ (value_there h c.requires.4 c.loop-v.v l)) ∙ c.if-not-value_ok.false),
)

pub returns-then-not-value_ok : goal.returns-then-not-value_ok
returns-then-not-value_ok c =
    λ P x h.
    let l : c.loop-v.v < length x.values = omega (arith, node_variables h c.args.place c.requires.2, c.requires.3) in
    left_bad h c.loop-v.v l (c.loop-v.invariant.4 P x h) (ap (λ (i : ℕ). value_ok i (get_or x.values c.loop-v.v no_term))
    (sym (c.sort_of-sort.ensures ∙ node_sort h c.args.place c.requires.2 c.loop-v.v l)) ∙ sym
    (c.value_ok.ensures _ (value_there h c.requires.4 c.loop-v.v l)) ∙ c.if-not-value_ok.true)

pub returns : goal.returns
returns c =
    λ P x h. left_none h c.loop-v.v (omega (arith, node_variables h c.args.place c.requires.2, c.requires.3)) (c.loop-v.invariant.4 P x h)
