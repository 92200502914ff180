-- The invariant is that what the steps so far came to, and the steps that are left, come together to all of them.
use mathlib.Core.Path.{◌≡◌}
use mathlib.Core.Bool.{Bool, false}
use Prim.Native.Nat.{ℕ, ◌-◌}
use Rattle.std.proofs.Common.{Option}
use Rattle.protocol.specs.Protocol.Walks.{walks_on}
use Rattle.protocol.proofs.walks.repeated.Given as goal

abbrev pub invariant-loop-j : goal.invariant-loop-j
invariant-loop-j g l =
    (h : ℕ → Option (ℕ × Bool)) → ((i : ℕ) (r : Option (ℕ × Bool)) → goal.F-post g l.step i r → r ≡ h i)
    → walks_on h l.n false l.at ≡ walks_on h (l.n - l._j) l.found l.i
