-- The invariant is that the first e places hold symbols and the others still their entries; each turn puts one symbol.
use Rattle.trace.specs.Entries.Symbols.{KeptFrom}
use Rattle.trace.specs.Entries.{EntriesOf, SymbolsTo}
use Rattle.lists.specs.Asks.{Promises₃}
use Rattle.protocol.specs.Protocol.{Protocol}
use Rattle.steps.specs.Nodes.{Node}
use Prim.Native.Nat.{ℕ}
use mathlib.Core.List.{List}
use lib.ListN.{length}
use Rattle.trace.proofs.entries.put_symbols.Given as goal

abbrev pub invariant-loop-y : goal.invariant-loop-y
invariant-loop-y l =
    KeptFrom l.initial.symbols l.symbols l.y-index × Promises₃ (EntriesOf l.p l.nodes l.initial.symbols (length l.initial.symbols))
    (λ (s : List ℕ) (P : Protocol) (xs : List Node). SymbolsTo l.symbols l.y-index P xs)
