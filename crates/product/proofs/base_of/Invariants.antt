-- The loop goes down the tower: at each step the exp there is opened, and its exponent joins those behind.
use Rattle.product.proofs.ExponentPaths.{Down}
use Rattle.product.specs.Inner.{Behind}
use Rattle.term.specs.Term.{Term}
use Rattle.lists.specs.Asks.{Promises₂}
use lib.ListN.{length}
use Prim.Native.Nat.{ℕ, ◌-◌}
use Rattle.product.proofs.base_of.Given as goal

abbrev pub invariant-loop-b : goal.invariant-loop-b
invariant-loop-b l =
    Promises₂ (Behind l.arities l.src l.at) (λ (e : ℕ) (t : Term). Down l.arities l.src l.at l.b e t)

abbrev pub decreases-loop-b : goal.decreases-loop-b
decreases-loop-b l =
    length l.src - l.b
