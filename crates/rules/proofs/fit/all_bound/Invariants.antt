-- The invariant is that the first j variables are bound; the first that is not ends it with false.
use Rattle.rules.specs.Fit.Laws.{OfRule}
use Rattle.lists.specs.Below.{all_below}
use Rattle.rules.specs.Fit.{bound}
use Rattle.protocol.specs.Protocol.{Rule}
use mathlib.Core.Path.{◌≡◌}
use mathlib.Core.Bool.{true}
use lib.ListN.{length}
use Prim.Native.Nat.{◌≤◌}
use Rattle.rules.proofs.fit.all_bound.Given as goal

abbrev pub invariant-loop-j : goal.invariant-loop-j
invariant-loop-j l =
    OfRule l.text.file.now l.text.arities.now l.text.ars.now l.x.at (λ (r : Rule). l.n ≤ length r.sorts → all_below (bound r) l.j ≡ true)
