-- A count that reads, or a fault: the two cases of `counted`.
use Rattle.protocol.specs.Index.{Tabled}
use Rattle.protocol.specs.Index.Fill.{told_as}
use Rattle.protocol.specs.Protocol.{own}
use Rattle.number.specs.Reading.Many.{counted_got, counted_fault}
use Rattle.number.specs.Reading.{as_read}
use mathlib.Core.Path.{ap, sym, ◌∙◌}
use native.Mathlib.Omega.{arith}
use borrow.Author.Rules.{rules}
use Rattle.protocol.specs.Protocol.Walks.{below_small}
use Rattle.protocol.proofs.index.symbols.Goals as goal

pub symbols_from-requires : goal.symbols_from-requires
symbols_from-requires c = (
  omega (arith, below_small _ _ _ (sym c.below.ensures ∙ ap as_read c.in_ok-n.was)),
  search
      rules,
  search rules,
)

pub returns : goal.returns
returns c =
    record {
      kept = search rules;
      told = told_as _ _ (Tabled c.symbols_from.new.ars c.symbols_from.new.flags) c.symbols_from.result
          (counted_got _ (own c.args.file.now) 32 _ _ _ (sym c.below.ensures ∙ ap as_read c.in_ok-n.was)) c.symbols_from.ensures.told;
    }

pub returns-in_err-n : goal.returns-in_err-n
returns-in_err-n c = record {
  kept = search rules;
  told = rw c.from_residual.ensures (counted_fault _ (own c.args.file.now) 32 _
      (sym c.below.ensures ∙ ap as_read c.in_err-n.was));
}
