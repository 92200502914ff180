-- Filling in values leaves the symbol, so the rule's fact tells it.
use native.Mathlib.Omega.{arith}
use Rattle.facts.specs.Rules.{symbol_is}
use Rattle.facts.proofs.symbols.fact_symbol.Goals as goal

pub symbol_of-requires : goal.symbol_of-requires
symbol_of-requires c =
    omega (arith, c.requires.3.node.prepared.long)

pub returns : goal.returns
returns c =
    λ s P m f. symbol_is f.node _ _ f.listed _ _ c.fact_place-place.ensures c.symbol_of.ensures
