-- The lists behind the sorts are walked; a fault in the sorts is the rule's.
use Rattle.protocol.specs.Protocol.Walks.{rule_asks, layout_got, layout_fault}
use Rattle.number.specs.Reading.{seen, as_read}
use mathlib.Core.Path.{ap, sym, ◌∙◌}
use Rattle.protocol.proofs.walks.one_layout.Goals as goal

pub returns : goal.returns
returns c =
    c.some_lists.ensures ∙ sym (layout_got _ c.args.x.now.arities.now c.args.x.now.ars.now _ c.args.w.kind c.args.w.lo c.args.w.hi
    (sym c.sorts_at.ensures ∙ ap as_read c.in_ok-e.was))

pub returns-in_err-e : goal.returns-in_err-e
returns-in_err-e c =
    rw c.from_residual.ensures (sym (ap (seen (rule_asks c.args.w.kind c.args.w.lo c.args.w.hi)) (layout_fault _ c.args.x.now.arities.now c.args.x.now.ars.now _
    (sym c.sorts_at.ensures ∙ ap as_read c.in_err-e.was))))
