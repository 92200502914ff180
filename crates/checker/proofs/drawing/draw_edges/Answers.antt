-- The edges that were chosen are those that are defined, and no choice is refusal 14.
use native.Mathlib.Omega.{arith}
use Rattle.checker.specs.Draw.Inside.{drawn_edges, missing_few, drawn_missing}
use Rattle.checker.specs.Answer.{written_refused}
use Rattle.checker.proofs.drawing.draw_edges.Goals as goal

pub choose_sources-requires : goal.choose_sources-requires
choose_sources-requires c =
    let (P, xs, d) = c.requires.0 in ((P, xs, d.right), c.requires.3, c.requires.2)

pub write_drawn-requires : goal.write_drawn-requires
write_drawn-requires c =
    let (P, xs, d) = c.requires.0 in let a = (c.choose_sources.ensures P xs d.right).fed _ c.in-Ok.is in ((a.is, a.stand), c.requires.1)

pub refuse-requires : goal.refuse-requires
refuse-requires c =
    let (P, xs, d) = c.requires.0 in (
      omega arith,
      omega (
        arith,
        missing_few d ((c.choose_sources.ensures P xs d.right).unfed _ c.in-Err.is)
            (λ i. (c.type_inv.steps i).fits),
      ),
    )

pub returns-in-Ok : goal.returns-in-Ok
returns-in-Ok c =
    λ P xs d. let a = (c.choose_sources.ensures P xs d.right).fed _ c.in-Ok.is in drawn_edges d c.args.output.now _ _ a
    (c.write_drawn.ensures a.is a.stand)

pub returns-in-Err : goal.returns-in-Err
returns-in-Err c =
    λ P xs d. drawn_missing d ((c.choose_sources.ensures P xs d.right).unfed _ c.in-Err.is) c.args.output.now _
    (written_refused c.refuse.ensures)
