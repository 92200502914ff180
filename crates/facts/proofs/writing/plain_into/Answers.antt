-- As in `fact_into`, with `filled_into`: the bytes of the fact as it stands fit its room.
use mathlib.Core.Path.{refl, sym}
use Rattle.prepared.specs.Prepared.Laws.{slots_length}
use native.Mathlib.Omega.{arith}
use Rattle.facts.specs.Writing.Whole.{symbol_listed, fact_ready, plain_done}
use Rattle.facts.proofs.writing.plain_into.Goals as goal

pub arguments-at-requires : goal.arguments-at-requires
arguments-at-requires c =
    (c.requires.2.job.long, symbol_listed _ _ _ _ _ _ (λ k. (c.type_inv.p k).fits) _ _ c.requires.2.job _ refl)

pub slice_bounds-filled_into-end : goal.slice_bounds-filled_into-end
slice_bounds-filled_into-end c =
    sym (slots_length c.args.p.now (omega (arith, c.requires.2.job.long)))

pub filled_into-requires : goal.filled_into-requires
filled_into-requires c =
    fact_ready _ _ _ _ (λ k. (c.type_inv.p k).fits) _ _ _ refl c.arguments-at.ensures.count c.arguments-at.ensures.at _ _ _ c.requires

pub returns : goal.returns
returns c =
    plain_done _ _ _ _ (λ k. (c.type_inv.p k).fits) _ _ _ refl c.arguments-at.ensures.count c.arguments-at.ensures.at _ _ _ _ _
    c.filled_into.ensures
