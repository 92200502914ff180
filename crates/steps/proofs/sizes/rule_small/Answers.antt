-- The invariant is that the lists from j on decide; the prepared protocol has each list's place.
use Rattle.steps.specs.Values.Parts.{all_more, all_bad, all_done, list_small}
use Rattle.steps.specs.Table.Laws.{of_listed, of_list, of_three}
use Rattle.steps.specs.Values.Weights.{size_in}
use Rattle.prepared.specs.Prepared.{ListAt}
use Prim.Native.Nat.{◌<◌}
use mathlib.Core.List.{[]}
use mathlib.Core.Path.{sym, ◌∙◌, subst}
use lib.ListN.{length, get_or}
use native.Mathlib.Omega.{arith}
use Rattle.steps.proofs.sizes.rule_small.Goals as goal

pub list_place-requires : goal.list_place-requires
list_place-requires c =
    (of_listed c.requires.0.2, c.loop-j-test.true, c.requires.0.2.prepared.long)

pub list_small-requires : goal.list_small-requires
list_small-requires c =
    let q = c.requires.0 in (
      (
        get_or q.1.lists c.loop-j.j [],
        subst (ListAt c.args.p.now q.1 c.loop-j.j) (sym c.list_place.ensures)
            (of_list q.2 c.loop-j.j c.loop-j-test.true),
      ),
      q.2.prepared.long,
      c.requires.1,
    )

pub loop-j-preserved : goal.loop-j-preserved
loop-j-preserved c =
    λ P u h.
    let l : c.loop-j.j < length u.lists = omega (arith, of_three h) in
    all_more (list_small (size_in c.args.sizes.now)) [] u.lists c.loop-j.j l
    (sym (c.list_small.ensures _ (subst (ListAt c.args.p.now u c.loop-j.j) (sym c.list_place.ensures)
    (of_list h c.loop-j.j c.loop-j-test.true))) ∙ c.if-not-list_small.false) (c.loop-j.invariant P u h)

pub returns-then-not-list_small : goal.returns-then-not-list_small
returns-then-not-list_small c =
    λ P u h.
    let l : c.loop-j.j < length u.lists = omega (arith, of_three h) in
    all_bad (list_small (size_in c.args.sizes.now)) [] u.lists c.loop-j.j l
    (sym (c.list_small.ensures _ (subst (ListAt c.args.p.now u c.loop-j.j) (sym c.list_place.ensures)
    (of_list h c.loop-j.j c.loop-j-test.true))) ∙ c.if-not-list_small.true) (c.loop-j.invariant P u h)

pub returns : goal.returns
returns c =
    λ P u h. all_done (list_small (size_in c.args.sizes.now)) [] u.lists c.loop-j.j
    (omega (arith, of_three h)) (c.loop-j.invariant P u h)
