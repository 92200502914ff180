-- A count, then that many facts: the two cases of `counted`.
use Rattle.protocol.specs.Protocol.Walks.{asks, facts_got, facts_fault}
use Rattle.number.specs.Reading.{seen, as_read}
use Rattle.lists.specs.Lists.{any_by}
use mathlib.Core.Path.{ap, sym, ◌∙◌}
use Rattle.protocol.proofs.walks.one_list.Goals as goal

pub returns : goal.returns
returns c =
    c.some_facts.ensures ∙ sym (ap (seen (any_by (asks c.args.w.kind c.args.w.lo c.args.w.hi)))
    (facts_got _ c.args.x.now.arities.now c.args.x.now.ars.now _ (sym c.below.ensures ∙ ap as_read c.in_ok-n.was)))

pub returns-in_err-n : goal.returns-in_err-n
returns-in_err-n c =
    rw c.from_residual.ensures (sym (ap (seen (any_by (asks c.args.w.kind c.args.w.lo c.args.w.hi))) (facts_fault _ c.args.x.now.arities.now c.args.x.now.ars.now _
    (sym c.below.ensures ∙ ap as_read c.in_err-n.was))))
