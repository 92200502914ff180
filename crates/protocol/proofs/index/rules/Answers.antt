-- A count that reads, or a fault: the two cases of `counted`.
use Rattle.protocol.specs.Index.{Placed}
use Rattle.protocol.specs.Index.Fill.{told_as}
use Rattle.protocol.specs.Protocol.{rule, empty_rule}
use Rattle.number.specs.Reading.Many.{counted_got, counted_fault}
use Rattle.number.specs.Reading.{as_read}
use mathlib.Core.Path.{ap, sym, ◌∙◌}
use native.Mathlib.Omega.{arith}
use borrow.Author.Rules.{rules}
use Rattle.protocol.specs.Protocol.Walks.{below_small}
use Rattle.protocol.proofs.index.rules.Goals as goal

pub rules_from-requires : goal.rules_from-requires
rules_from-requires c = (
  search rules,
  omega (
    arith,
    below_small _ _ _ (sym c.below.ensures ∙ ap as_read c.in_ok-n.was),
  ),
  search rules,
)

pub returns : goal.returns
returns c =
    record {
      kept = search rules;
      told = told_as _ _ (Placed (rule c.args.x.now.file.now c.args.x.now.arities.now c.args.x.now.ars.now) empty_rule
          c.rules_from.new.places) c.rules_from.result
          (counted_got _ (rule c.args.x.now.file.now c.args.x.now.arities.now c.args.x.now.ars.now) 64 _ _ _
          (sym c.below.ensures ∙ ap as_read c.in_ok-n.was)) c.rules_from.ensures.told;
    }

pub returns-in_err-n : goal.returns-in_err-n
returns-in_err-n c =
    record {
      kept = search rules;
      told = rw c.from_residual.ensures (counted_fault _ (rule c.args.x.now.file.now c.args.x.now.arities.now c.args.x.now.ars.now) 64 _
          (sym c.below.ensures ∙ ap as_read c.in_err-n.was));
    }
