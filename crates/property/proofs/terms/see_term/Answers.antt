-- A tag below 2, then its number, of a variable or of a name; any other tag is no term.
use Rattle.property.specs.Walk.Terms.{term_none, term_cut, term_variable, term_name}
use Rattle.number.specs.Reading.{as_read}
use mathlib.Core.Path.{ap, sym, ◌∙◌}
use Rattle.property.proofs.terms.see_term.Goals as goal

pub returns-in_err-tag : goal.returns-in_err-tag
returns-in_err-tag c =
    rw c.from_residual.ensures (term_none c.args.f.now c.args.at (ap as_read (sym c.in_err-tag.was) ∙ c.below.ensures))

pub returns-in_err-x : goal.returns-in_err-x
returns-in_err-x c =
    rw c.from_residual-in_err-x.ensures (term_cut c.args.f.now c.args.at (ap as_read (sym c.in_ok-tag.was) ∙ c.below.ensures)
    (ap as_read (sym c.in_err-x.was) ∙ c.read_number.ensures))

pub returns-then-tag-eq-VARIABLE : goal.returns-then-tag-eq-VARIABLE
returns-then-tag-eq-VARIABLE c =
    term_variable c.args.f.now c.args.at (ap as_read (sym c.in_ok-tag.was) ∙ c.below.ensures)
    (ap as_read (sym c.in_ok-x.was) ∙ c.read_number.ensures) c.if-tag-eq-VARIABLE.true

pub returns : goal.returns
returns c =
    term_name c.args.f.now c.args.at (ap as_read (sym c.in_ok-tag.was) ∙ c.below.ensures)
    (ap as_read (sym c.in_ok-x.was) ∙ c.read_number.ensures) c.if-tag-eq-VARIABLE.false
