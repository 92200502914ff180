-- `rule` is the layout with no variable from the declared count on; closed_lists tells both.
use Rattle.protocol.specs.Protocol.Walks.{ended, rule_got, rule_fault, layout_fault}
use Rattle.number.specs.Reading.{as_read}
use mathlib.Core.Path.{ap, sym, ◌∙◌}
use Rattle.protocol.proofs.walks.one_rule.Goals as goal

pub returns : goal.returns
returns c =
    c.closed_lists.ensures ∙ sym (rule_got _ c.args.x.now.arities.now c.args.x.now.ars.now _
    (sym c.sorts_at.ensures ∙ ap as_read c.in_ok-n.was))

pub returns-in_err-n : goal.returns-in_err-n
returns-in_err-n c =
    rw c.from_residual.ensures (sym (ap ended (rule_fault _ c.args.x.now.arities.now c.args.x.now.ars.now _
    (layout_fault _ c.args.x.now.arities.now c.args.x.now.ars.now _ (sym c.sorts_at.ensures ∙ ap as_read c.in_err-n.was)))))
