-- The packed answer of check, which is within the bounds that packing asks.
use lib.ListN.{length}
use mathlib.Core.Path.{ap, sym, ◌∙◌, subst}
use Rattle.checker.specs.Check.Bounds.{OutcomeSmall, check_small}
use Rattle.checker.specs.Check.{packed_ruling}
use Rattle.checker.proofs.levtosziv_check.Goals as goal

pub pack_ruling-requires : goal.pack_ruling-requires
pack_ruling-requires c =
    subst OutcomeSmall (sym c.check.ensures.answer) (check_small c.args.protocol.now c.args.property.now c.args.graph.now
    (λ i. (c.type_inv.protocol i).fits) (λ i. (c.type_inv.property i).fits) (λ i. (c.type_inv.graph i).fits)
    (length c.args.work.now))

pub returns : goal.returns
returns c =
    record { answer = c.pack_ruling.ensures ∙ ap packed_ruling c.check.ensures.answer; cleared = c.check.ensures.cleared }
