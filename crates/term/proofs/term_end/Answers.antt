-- One term is a list of one.
use mathlib.Core.Path.{◌∙◌}
use Rattle.term.specs.Reader.{term}
use Rattle.term.specs.Walk.Laws.{endeds_one}
use Rattle.term.proofs.term_end.Goals as goal

pub returns : goal.returns
returns c =
    c.terms_end.ensures ∙ endeds_one (term c.args.file.now c.args.arities.now) c.args.at
