-- The walk's test where the terms read; where they do not, nothing is promised.
use Rattle.property.specs.Walk.Heads.{among, among_none}
use Rattle.property.specs.Layout.{term_at}
use Rattle.property.specs.Fit.{is_var}
use Rattle.property.specs.Formula.{var, public}
use Rattle.std.proofs.Common.{rules}
use Rattle.number.specs.Reading.{many}
use mathlib.Core.Path.{sym, ◌∙◌}
use Rattle.property.proofs.heads.is_among.Goals as goal

pub returns-in-Some : goal.returns-in-Some
returns-in-Some c =
    among (is_var c.args.x) (many (term_at c.args.f.now) c.args.guard.count c.args.guard.terms)
    (sym c.in-Some.is ∙ c.any_term.ensures (is_var c.args.x) (λ t. elim t [ var y ↦ λ b p. search rules | public n ↦ λ b p. search rules ]))

pub returns-in-None : goal.returns-in-None
returns-in-None c =
    among_none (is_var c.args.x) (many (term_at c.args.f.now) c.args.guard.count c.args.guard.terms)
    (sym c.in-None.is ∙ c.any_term.ensures (is_var c.args.x) (λ t. elim t [ var y ↦ λ b p. search rules | public n ↦ λ b p. search rules ]))
