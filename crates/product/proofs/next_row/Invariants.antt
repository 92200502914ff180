-- The invariant is that no entry from i up to j stands on the side.
use Prim.Native.Nat.{ℕ, ◌≤◌, ◌<◌}
use mathlib.Core.Path.{◌≡◌}
use Rattle.factors.specs.Rows.{power_of}
use Rattle.product.specs.Side.{rise}
use Rattle.product.proofs.next_row.Given as goal

abbrev pub invariant-loop-j : goal.invariant-loop-j
invariant-loop-j l =
    (l.i ≤ l.j) × ((k : ℕ) → l.i ≤ k → k < l.j → rise l.minus (power_of l.entries k) ≡ 0)
