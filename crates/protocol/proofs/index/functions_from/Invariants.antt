-- The invariant is that the first j arities are read and that the table is `tag_arities` of them; each turn sets one slot.
use Rattle.protocol.specs.Index.Fill.{Slotting}
use mathlib.Core.Path.{◌≡◌}
use lib.ListN.{length}
use Rattle.protocol.proofs.index.functions_from.Given as goal

abbrev pub invariant-loop-j : goal.invariant-loop-j
invariant-loop-j l =
    (length l.arities ≡ length l.initial.arities) × Slotting l.file l.at l.j l.i l.arities
