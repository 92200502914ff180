-- The prepared protocol's entry for the symbol is 1 exactly where it is linear.
use native.Mathlib.Omega.{arith}
use Rattle.facts.specs.Calls.Laws.{symbol_known, linear_is}
use Rattle.facts.proofs.symbols.is_linear.Goals as goal

pub overflow_add-result : goal.overflow_add-result
overflow_add-result c =
    let (s, P, m, f) = c.requires in
    omega (arith, symbol_known f _ (c.fact_symbol-y.ensures s P m f))

pub bounds-p-y : goal.bounds-p-y
bounds-p-y c =
    let (s, P, m, f) = c.requires in
    omega (arith, symbol_known f _ (c.fact_symbol-y.ensures s P m f), f.node.prepared.long)

pub returns : goal.returns
returns c =
    λ s P m f. linear_is f _ (c.fact_symbol-y.ensures s P m f)
