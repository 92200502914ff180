-- A symbol below the count of symbols, then the terms that its arity asks; else a fault.
use Rattle.protocol.specs.Protocol.Walks.{below_small, asks, fact_got, fact_fault}
use Rattle.number.specs.Reading.{seen, as_read}
use mathlib.Core.Path.{ap, sym, ◌∙◌}
use native.Mathlib.Omega.{arith}
use borrow.Author.Rules.{rules}
use Rattle.protocol.proofs.walks.one_fact.Goals as goal

pub fact_from-requires : goal.fact_from-requires
fact_from-requires c = (
  search rules,
  omega (
    arith,
    below_small _ _ _ (sym c.below.ensures ∙ ap as_read c.in_ok-y.was),
  ),
)

pub returns : goal.returns
returns c =
    c.fact_from.ensures ∙ sym (ap (seen (asks c.args.w.kind c.args.w.lo c.args.w.hi))
    (fact_got _ _ c.args.x.now.ars.now _ (sym c.below.ensures ∙ ap as_read c.in_ok-y.was)))

pub returns-in_err-y : goal.returns-in_err-y
returns-in_err-y c =
    rw c.from_residual.ensures (sym (ap (seen (asks c.args.w.kind c.args.w.lo c.args.w.hi)) (fact_fault _ _ c.args.x.now.ars.now _
    (sym c.below.ensures ∙ ap as_read c.in_err-y.was))))
