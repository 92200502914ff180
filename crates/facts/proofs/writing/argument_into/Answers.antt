-- One term at its place: canonical_into with k = 1, and its bytes are those of the argument.
use mathlib.Core.Path.{sym}
use native.Mathlib.Omega.{arith}
use Rattle.prepared.specs.Prepared.Laws.{slots_length}
use Rattle.facts.specs.Writing.Argument.{argument_ready, argument_done}
use Rattle.facts.proofs.writing.argument_into.Goals as goal

pub term_at-at-requires : goal.term_at-at-requires
term_at-at-requires c =
    (omega (arith, c.requires.2.job.long), omega (arith, c.requires.2.job.long))

pub slice_bounds-canonical_into-end : goal.slice_bounds-canonical_into-end
slice_bounds-canonical_into-end c =
    sym (slots_length c.args.p.now (omega (arith, c.requires.2.job.long)))

pub canonical_into-requires : goal.canonical_into-requires
canonical_into-requires c =
    argument_ready _ _ _ _ (λ k. (c.type_inv.p k).fits) _ _ c.term_at-at.ensures _ _ c.requires

pub returns : goal.returns
returns c =
    argument_done _ _ _ _ (λ k. (c.type_inv.p k).fits) _ _ c.term_at-at.ensures _ _ _ _ _ c.canonical_into.ensures
