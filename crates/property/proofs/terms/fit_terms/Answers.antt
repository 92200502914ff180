-- Where no term fails the test, all pass it.
use Rattle.property.specs.Walk.Chain.{all_end, all_fault}
use Rattle.property.specs.Layout.{term_at}
use Rattle.property.specs.Fit.{term_fits}
use Rattle.property.specs.Formula.{Term, var, public}
use Rattle.number.specs.Reading.{many}
use Rattle.std.proofs.Common.{map, not, rules}
use mathlib.Core.Path.{sym, ◌∙◌}
use Rattle.property.proofs.terms.fit_terms.Goals as goal

pub returns-in_err-e : goal.returns-in_err-e
returns-in_err-e g c =
    rw c.from_residual.ensures
    (all_fault (term_fits (map g.S.AsSort.meaning c.args.sorts.now)) (many (term_at c.args.f.now) c.args.k c.args.at)
    (sym c.in_err-e.was ∙ c.any_term.ensures (λ (t : Term). not (term_fits (map g.S.AsSort.meaning c.args.sorts.now) t))
    (λ t. elim t [ var x ↦ λ b p. search rules | public n ↦ λ b p. search rules ])))

pub returns : goal.returns
returns g c =
    all_end (term_fits (map g.S.AsSort.meaning c.args.sorts.now)) (many (term_at c.args.f.now) c.args.k c.args.at)
    (sym c.in_ok-e.was ∙ c.any_term.ensures (λ (t : Term). not (term_fits (map g.S.AsSort.meaning c.args.sorts.now) t))
    (λ t. elim t [ var x ↦ λ b p. search rules | public n ↦ λ b p. search rules ]))
