-- The table's first bytes are the turned flags, and they are written padded.
use Rattle.prepared.specs.Sections.{linears_at}
use Rattle.protocol.specs.Figures.{symbol_count}
use Rattle.prepared.specs.Filling.Lists.{linears_front}
use Rattle.term.specs.Arity.{padded}
use Rattle.octets.specs.Splice.{splice}
use lib.ListN.{length-take}
use Prim.Native.Nat.{ℕ}
use native.Mathlib.Omega.{arith}
use mathlib.Core.List.{List}
use mathlib.Core.Path.{ap, ◌∙◌}
use Rattle.prepared.proofs.filling.put_linears.Goals as goal

pub slice_bounds-put_padded-end : goal.slice_bounds-put_padded-end
slice_bounds-put_padded-end c =
    simp length-take (omega (arith, c.linears_into.auto))

pub put_padded-requires : goal.put_padded-requires
put_padded-requires c =
    (omega arith, simp length-take (omega (arith, c.requires.1)))

pub returns : goal.returns
returns c =
    c.put_padded.ensures ∙ ap (λ (l : List ℕ). splice c.args.p.now linears_at (padded symbol_count l))
    (linears_front _ _ c.args.flags.now c.linears_into.ensures c.requires.1)
