-- A rule that is found has as many variables as values are placed; a number that has none is told as such.
use Rattle.std.specs.Result.{result_ok}
use Rattle.steps.specs.Nodes.Filling.{as_found, variables_few, found_entered}
use Rattle.prepared.specs.Prepared.Laws.{slots_length}
use lib.ListN.{length-set}
use mathlib.Core.Path.{ap, refl, sym, ◌∙◌}
use native.Mathlib.Omega.{arith}
use Rattle.steps.proofs.nodes.enter_node.Goals as goal

pub slice_bounds-place_values-end : goal.slice_bounds-place_values-end
slice_bounds-place_values-end c =
    sym (slots_length c.args.p.now c.requires.0.1.body.long)

pub place_values-requires : goal.place_values-requires
place_values-requires c =
    let (P, f) = c.requires.0 in (
      c.requires.1,
      variables_few f c.args.s.now c.args.number c.args.at c.args.nodes.now c.args.j _ _
          (as_found c.args.p.now P c.args.number (c.ok_or.ensures.ok_part ∙ ap result_ok c.in_ok-place.was) (c.rule_place.ensures P f.body))
          c.variables_of-k.ensures,
      simp length-set (omega (arith, c.requires.2, c.requires.3)),
    )

pub returns : goal.returns
returns c =
    λ P f. found_entered f c.args.s.now c.args.number c.args.at c.args.nodes.now c.args.j _ _
    (as_found c.args.p.now P c.args.number (c.ok_or.ensures.ok_part ∙ ap result_ok c.in_ok-place.was) (c.rule_place.ensures P f.body)) c.variables_of-k.ensures _ _ _
    refl (omega (arith, c.requires.2, c.requires.3)) c.place_values.ensures
