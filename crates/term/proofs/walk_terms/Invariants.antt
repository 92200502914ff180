-- The invariant is that the tally so far, put to the walk of the pending terms, is the whole walk; each turn takes a symbol off, so the file bounds the turns.
use Rattle.term.specs.Walk.Laws.{tally}
use Rattle.term.specs.Walk.{walks}
use Rattle.term.specs.Reader.{term}
use Rattle.number.specs.Reading.{many}
use mathlib.Core.Path.{◌≡◌}
use Prim.Native.Nat.{◌+◌, ◌-◌, ◌*◌, ◌≤◌}
use lib.ListN.{length}
use Rattle.term.proofs.walk_terms.Given as goal

abbrev pub invariant-loop-pending : goal.invariant-loop-pending
invariant-loop-pending l =
    (l.count ≤ length l.file) × (l.count ≤ l.i) × (l.pending ≤ 255 * l.count + l.k) × (tally l.w.kind l.w.lo l.w.hi l.count l.found (many (term l.file l.arities) l.pending l.i) ≡ walks l.w.kind l.w.lo l.w.hi
    (many (term l.file l.arities) l.k l.at))

abbrev pub decreases-loop-pending : goal.decreases-loop-pending
decreases-loop-pending l =
    length l.file - l.count
