-- One term is a list of one.
use mathlib.Core.Path.{◌∙◌}
use Rattle.term.specs.Reader.{term}
use Rattle.term.specs.Walk.Laws.{walks_one}
use Rattle.term.proofs.walk_term.Goals as goal

pub returns : goal.returns
returns c =
    c.walk_terms.ensures ∙ walks_one c.args.w.kind c.args.w.lo c.args.w.hi (term c.args.file.now c.args.arities.now) c.args.at
