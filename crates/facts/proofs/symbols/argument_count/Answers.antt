-- A fact has as many arguments as its symbol's arity.
use mathlib.Core.Path.{◌∙◌}
use native.Mathlib.Omega.{arith}
use Rattle.facts.specs.Calls.Laws.{symbol_known, arity_is}
use Rattle.facts.proofs.symbols.argument_count.Goals as goal

pub arity_of-requires : goal.arity_of-requires
arity_of-requires c =
    let (s, P, m, f) = c.requires in
    (symbol_known f _ (c.fact_symbol-y.ensures s P m f), omega (arith, f.node.prepared.long))

pub returns : goal.returns
returns c =
    λ s P m f. c.arity_of.ensures ∙ arity_is f _ (c.fact_symbol-y.ensures s P m f)
