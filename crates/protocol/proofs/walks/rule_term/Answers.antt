-- The walk of a term, and then whether its symbols are below 65.
use Rattle.protocol.specs.Protocol.Walks.{rule_term_end, rule_term_long, rule_term_seen}
use mathlib.Core.Path.{sym, ◌∙◌}
use Rattle.protocol.proofs.walks.rule_term.Goals as goal

pub returns-then-walk-lt-RULE_SYMBOL_LIMIT : goal.returns-then-walk-lt-RULE_SYMBOL_LIMIT
returns-then-walk-lt-RULE_SYMBOL_LIMIT c =
    rule_term_end _ _ _ _ c.args.x.now.arities.now _ (sym c.in_ok-walk.was ∙ c.walk_term.ensures) c.if-walk-lt-RULE_SYMBOL_LIMIT.true

pub returns : goal.returns
returns c =
    rule_term_long _ _ _ _ c.args.x.now.arities.now _ (sym c.in_ok-walk.was ∙ c.walk_term.ensures) c.if-walk-lt-RULE_SYMBOL_LIMIT.false

pub returns-in_err-walk : goal.returns-in_err-walk
returns-in_err-walk c =
    rw c.from_residual.ensures (rule_term_seen _ _ _ _ c.args.x.now.arities.now _
    (sym c.in_err-walk.was ∙ c.walk_term.ensures))
