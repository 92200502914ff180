-- The walk with a test that no leaf meets; its end and its symbols are kept.
use mathlib.Core.Path.{ap, sym, ◌∙◌}
use Rattle.number.specs.Reading.{many}
use Rattle.term.specs.Reader.{term}
use Rattle.term.specs.Walk.Laws.{walks_part, part_of}
use Rattle.term.proofs.terms_end.Goals as goal

pub returns : goal.returns
returns c =
    let a = c.args in
    ap part_of (sym c.in_ok-walk.was ∙ c.walk_terms.ensures) ∙ walks_part 0 0 0 (many (term a.file.now a.arities.now) a.k a.at)

pub returns-in_err-walk : goal.returns-in_err-walk
returns-in_err-walk c =
    let a = c.args in
    rw c.from_residual.ensures
    (ap part_of (sym c.in_err-walk.was ∙ c.walk_terms.ensures) ∙ walks_part 0 0 0
    (many (term a.file.now a.arities.now) a.k a.at))
