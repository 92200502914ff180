-- The answer of draw, packed.
use Rattle.checker.specs.Answer.{packed}
use mathlib.Core.Path.{ap, ◌∙◌}
use Rattle.checker.proofs.levtosziv_draw.Goals as goal

pub returns : goal.returns
returns c =
    record { answer = c.pack.ensures ∙ ap packed c.draw.ensures.answer; wrote = c.draw.ensures.wrote; cleared = c.draw.ensures.cleared }
