-- The invariant is that the first e places hold symbols and the others still their entries; each turn puts one symbol.
use Rattle.trace.specs.Entries.Symbols.{kept_all, kept_more, symbols_none, symbols_more, kept_listed, kept_symbol}
use Rattle.facts.specs.Calls.Laws.{symbol_known}
use Rattle.trace.specs.Entries.{SymbolsTo}
use Prim.Native.Nat.{ℕ}
use lib.ListN.{length}
use mathlib.Core.Path.{◌≡◌, subst}
use native.Mathlib.Omega.{arith}
use Rattle.trace.proofs.entries.put_symbols.Goals as goal

pub loop-y-init : goal.loop-y-init
loop-y-init c =
    (kept_all, λ s P xs l. symbols_none)

pub fact_symbol-requires : goal.fact_symbol-requires
fact_symbol-requires c =
    let (s, P, xs, l) = c.requires in
    (s, P, _, kept_listed l (omega arith) c.loop-y.invariant.0 _ c.action_of-x.ensures)

pub overflow_cast-y : goal.overflow_cast-y
overflow_cast-y c =
    let (s, P, xs, l) = c.requires in
    let f = kept_listed l (omega arith) c.loop-y.invariant.0 _ c.action_of-x.ensures in
    omega (arith, symbol_known f _ (c.fact_symbol.ensures s P _ f))

pub loop-y-preserved : goal.loop-y-preserved
loop-y-preserved c = (
  kept_more _ _ c.loop-y.invariant.0,
  λ s P xs l. symbols_more _ _ (c.loop-y.invariant.1 s P xs l) (omega arith)
      (kept_symbol l (omega arith) c.loop-y.invariant.0 _ c.action_of-x.ensures _ c.fact_symbol.ensures),
)

pub returns : goal.returns
returns c =
    λ s P xs l.
    let z : c.loop-y.y-index ≡ length c.args.symbols.now = omega arith in
    subst (λ (m : ℕ). SymbolsTo c.loop-y.symbols m P xs) z (c.loop-y.invariant.1 s P xs l)
