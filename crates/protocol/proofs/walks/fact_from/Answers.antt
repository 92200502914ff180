-- The kind tells which test of the fact it is: of its terms, as walked, or of its symbol, as computed.
use Rattle.protocol.specs.Protocol.Walks.{from_leaves, from_symbol, from_none}
use mathlib.Core.Path.{sym, ◌∙◌}
use Rattle.protocol.proofs.walks.fact_from.Goals as goal

pub returns-then-w-lt-SYMBOL_KIND : goal.returns-then-w-lt-SYMBOL_KIND
returns-then-w-lt-SYMBOL_KIND c =
    from_leaves _ _ _ _ _ _ _ _ c.if-w-lt-SYMBOL_KIND.true (sym c.in_ok-e.was ∙ c.rule_terms.ensures)

pub returns : goal.returns
returns c =
    from_symbol _ _ _ _ _ _ _ _ c.if-w-lt-SYMBOL_KIND.false (sym c.in_ok-e.was ∙ c.rule_terms.ensures)

pub returns-in_err-e : goal.returns-in_err-e
returns-in_err-e c =
    rw c.from_residual.ensures (from_none _ _ _ _ _ _ _ _ (sym c.in_err-e.was ∙ c.rule_terms.ensures))
