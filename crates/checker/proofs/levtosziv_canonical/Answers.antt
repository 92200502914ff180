-- The packed answer of canonical_form, whose memory is left as it is.
use mathlib.Core.Path.{ap, ◌∙◌}
use Rattle.checker.specs.Answer.{packed}
use Rattle.checker.proofs.levtosziv_canonical.Goals as goal

pub returns : goal.returns
returns c =
    record { answer = c.pack.ensures ∙ ap packed c.canonical_form.ensures.answer; wrote = c.canonical_form.ensures.wrote; cleared = c.canonical_form.ensures.cleared }
