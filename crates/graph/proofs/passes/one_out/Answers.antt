-- A count of at most one needs no more; above it being linear decides.
use mathlib.Core.Bool.{Bool, not, ◌||◌}
use mathlib.Core.Path.{ap₂, sym, ◌∙◌}
use Rattle.facts.specs.Calls.{fact_at}
use Rattle.steps.specs.Facts.{is_linear}
use Rattle.lists.specs.Tests.{or_right}
use borrow.Author.Tests.{le-leb, lt-leb}
use Rattle.graph.proofs.passes.one_out.Goals as goal

pub returns-then-count-le-ONE : goal.returns-then-count-le-ONE
returns-then-count-le-ONE c =
    λ s P m h. sym (or_right (not (is_linear P (fact_at P c.args.x.list c.args.x.number m))) _ (le-leb c.args.count 1 c.if-count-le-ONE.true))

pub returns-then-is_linear : goal.returns-then-is_linear
returns-then-is_linear c =
    λ s P m h. sym (ap₂ (λ (a b : Bool). not a || b) (sym (c.is_linear.ensures s P m h) ∙ c.if-is_linear.true)
    (lt-leb c.args.count 1 c.if-count-le-ONE.false))

pub returns : goal.returns
returns c =
    λ s P m h. sym (ap₂ (λ (a b : Bool). not a || b) (sym (c.is_linear.ensures s P m h) ∙ c.if-is_linear.false)
    (lt-leb c.args.count 1 c.if-count-le-ONE.false))
