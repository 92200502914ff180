-- The table begins as that of no free functions; then a count that reads, or a fault, is the two cases of `counted`.
use Rattle.protocol.specs.Figures.{arity_limit}
use Rattle.protocol.specs.Index.{Slotted}
use Rattle.protocol.specs.Index.Fill.{told_as, splice_all, slots_none}
use Rattle.number.specs.Reading.Many.{counted_got, counted_fault}
use Rattle.number.specs.Reading.{as_read, below}
use mathlib.Core.Path.{ap, sym, ◌∙◌}
use native.Mathlib.Omega.{arith}
use Rattle.protocol.specs.Protocol.Walks.{below_small}
use Rattle.protocol.proofs.index.functions.Goals as goal

pub functions_from-requires : goal.functions_from-requires
functions_from-requires c = (
  omega (
    arith,
    below_small _ _ _ (sym c.below.ensures ∙ ap as_read c.in_ok-n.was),
  ),
  omega (arith, c.copy_into.auto),
  c.copy_into.ensures.wrote ∙ splice_all _ _ (omega arith) ∙ sym slots_none,
)

pub returns : goal.returns
returns c =
    record {
      kept = omega (arith, c.copy_into.auto, c.functions_from.auto);
      told = told_as _ _ (Slotted c.functions_from.new.arities)
          c.functions_from.result (counted_got _ (below c.args.file.now arity_limit) 16 _ _ _
          (sym c.below.ensures ∙ ap as_read c.in_ok-n.was)) c.functions_from.ensures.told;
    }

pub returns-in_err-n : goal.returns-in_err-n
returns-in_err-n c =
    record {
      kept = omega (arith, c.copy_into.auto);
      told = rw c.from_residual.ensures (counted_fault _ (below c.args.file.now arity_limit) 16 _
          (sym c.below.ensures ∙ ap as_read c.in_err-n.was));
    }
