-- The invariant is that the sum so far and the weight of the pending terms are the term's, which ends where they end; a sum past the limit only grows.
use Rattle.steps.specs.Values.Weights.{Going, size_in}
use Rattle.term.specs.Term.{Term}
use Rattle.term.specs.Reader.{term}
use Rattle.protocol.specs.Places.{ReadAs}
use Rattle.lists.specs.Asks.{Promises₂}
use Rattle.steps.specs.Values.{most_filled_in}
use Prim.Native.Nat.{ℕ, ◌+◌, ◌-◌, ◌*◌, ◌≤◌}
use lib.ListN.{length}
use Rattle.steps.proofs.sizes.term_small.Given as goal

abbrev pub invariant-loop-pending : goal.invariant-loop-pending
invariant-loop-pending l =
    (l.pending ≤ 255 * l.i + 1) × (l.sum ≤ most_filled_in) × Promises₂ (ReadAs (term l.file l.arities) l.at)
    (λ (t : Term) (e : ℕ). Going l.file l.arities (size_in l.sizes) t e l.sum l.pending l.i)

abbrev pub decreases-loop-pending : goal.decreases-loop-pending
decreases-loop-pending l =
    length l.file - l.i
