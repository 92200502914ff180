-- The invariant is that j own symbols are read and stand in both tables behind the four built-in ones; each turn adds one.
use Rattle.protocol.specs.Index.Fill.{Owned}
use mathlib.Core.Path.{◌≡◌}
use lib.ListN.{length}
use Rattle.protocol.proofs.index.symbols_from.Given as goal

abbrev pub invariant-loop-j : goal.invariant-loop-j
invariant-loop-j l =
    (length l.ars ≡ length l.initial.ars) × (length l.flags ≡ length l.initial.flags) × Owned l.file l.at l.j l.i l.ars l.flags
