-- The fact's terms stand one behind the other, so one call of canonical_into with k the arity writes them all.
use mathlib.Core.Path.{refl, sym}
use Rattle.prepared.specs.Prepared.Laws.{slots_length}
use native.Mathlib.Omega.{arith}
use Rattle.facts.specs.Writing.Whole.{symbol_listed, fact_ready, fact_done}
use Rattle.facts.proofs.writing.fact_into.Goals as goal

pub arguments-at-requires : goal.arguments-at-requires
arguments-at-requires c =
    (c.requires.2.job.long, symbol_listed _ _ _ _ _ _ (λ k. (c.type_inv.p k).fits) _ _ c.requires.2.job _ refl)

pub slice_bounds-canonical_into-end : goal.slice_bounds-canonical_into-end
slice_bounds-canonical_into-end c =
    sym (slots_length c.args.p.now (omega (arith, c.requires.2.job.long)))

pub canonical_into-requires : goal.canonical_into-requires
canonical_into-requires c =
    fact_ready _ _ _ _ (λ k. (c.type_inv.p k).fits) _ _ _ refl c.arguments-at.ensures.count c.arguments-at.ensures.at _ _ _ c.requires

pub returns : goal.returns
returns c =
    fact_done _ _ _ _ (λ k. (c.type_inv.p k).fits) _ _ _ refl c.arguments-at.ensures.count c.arguments-at.ensures.at _ _ _ _ _
    c.canonical_into.ensures
