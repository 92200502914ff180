-- The symbol tells whether the premise is linear, and so whether the entry becomes 0.
use Rattle.lists.specs.Choice.{pick}
use lib.ListN.{set}
use mathlib.Core.Path.{ap, sym, ◌∙◌}
use mathlib.Core.Bool.{Bool}
use Rattle.writer.proofs.free.take_source.Goals as goal

pub returns-then-is_linear : goal.returns-then-is_linear
returns-then-is_linear c =
    λ s P m l. sym (ap (λ (b : Bool). pick b (set c.args.free.now c.args.v 0) c.args.free.now)
    (sym (c.is_linear.ensures s P m l) ∙ c.if-is_linear.true))

pub returns-else-is_linear : goal.returns-else-is_linear
returns-else-is_linear c =
    λ s P m l. sym (ap (λ (b : Bool). pick b (set c.args.free.now c.args.v 0) c.args.free.now)
    (sym (c.is_linear.ensures s P m l) ∙ c.if-is_linear.false))
