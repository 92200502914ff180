-- The need is the length of the steps and the edges behind them; the output is short below it.
use Rattle.checker.specs.Draw.Inside.{edged_short, edged_room, edged_written}
use mathlib.Core.Path.{refl}
use Rattle.checker.specs.Answer.{written_refused}
use Rattle.checker.proofs.drawing.write_drawn.Goals as goal

pub returns-then-output-need : goal.returns-then-output-need
returns-then-output-need c =
    λ es h. edged_short c.args.steps.now c.args.output.now es _ _ (c.edges_len.ensures.counted es h) refl _ c.if-output-need.true
    (written_refused c.refuse.ensures)

pub write_graph-requires : goal.write_graph-requires
write_graph-requires c = (
  c.requires.0,
  λ es h. edged_room c.args.steps.now c.args.output.now es _ _ (c.edges_len.ensures.counted es h) refl
      c.if-output-need.false,
)

pub returns : goal.returns
returns c =
    λ es h. edged_written c.args.steps.now c.args.output.now es _ _ (c.edges_len.ensures.counted es h) refl _ c.if-output-need.false _
    (c.write_graph.ensures es h) refl
