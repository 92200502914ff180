-- The walk's three answers, fit, unfit and fault, are the ruling: passed, 5, 3.
use Rattle.property.specs.Causes.Code.{body_tabled, ruled_good, ruled_unfit, ruled_fault}
use Rattle.property.specs.Layout.{property}
use Rattle.protocol.specs.Protocol.{fact_arities}
use mathlib.Core.Path.{sym, ◌∙◌}
use Rattle.property.proofs.ruling.rule_property.Goals as goal

pub see_property-requires : goal.see_property-requires
see_property-requires c =
    (fact_arities c.requires.0.symbols, body_tabled c.requires.1)

pub returns-in-Some-default-true : goal.returns-in-Some-default-true
returns-in-Some-default-true c =
    λ P b. ruled_good (property c.args.f.now (fact_arities P.symbols)) (sym c.in-Some-default-true.is ∙ c.see_property.ensures
    (fact_arities P.symbols) (body_tabled b)) c.in-Some-default-true.field-0-1-test

pub returns-in-Some-default-false : goal.returns-in-Some-default-false
returns-in-Some-default-false c =
    λ P b. ruled_unfit (property c.args.f.now (fact_arities P.symbols)) (sym c.in-Some-default-false.is ∙ c.see_property.ensures
    (fact_arities P.symbols) (body_tabled b)) c.in-Some-default-false.field-0-1-test

pub returns-in-None : goal.returns-in-None
returns-in-None c =
    λ P b. ruled_fault (property c.args.f.now (fact_arities P.symbols))
    (sym c.in-None.is ∙ c.see_property.ensures (fact_arities P.symbols) (body_tabled b))
