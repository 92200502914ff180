-- The invariant is that the entries of the first n rules are right and the body stays; each turn enters a number.
use Rattle.prepared.specs.Lists.{Listing}
use Rattle.prepared.specs.Prepared.{Body}
use Rattle.prepared.specs.Sections.{rule_count}
use Rattle.lists.specs.Asks.{Asks}
use Prim.Native.Nat.{ℕ, ◌*◌}
use mathlib.Core.List.{List}
use mathlib.Core.Path.{◌≡◌, refl, sym, ◌∙◌, subst}
use native.Mathlib.Omega.{arith}
use Rattle.prepared.proofs.list_places.enter_table.Goals as goal

pub loop-n-init : goal.loop-n-init
loop-n-init c =
    (c.requires.1, refl, λ j h P u f is. absurd (omega arith))

pub enter_number-requires : goal.enter_number-requires
enter_number-requires c = (
  c.loop-n-test.true,
  c.loop-n.invariant.0,
  subst (λ (b : List ℕ). Asks (Body b)) (sym c.loop-n.invariant.1)
      c.requires.0,
)

pub loop-n-preserved : goal.loop-n-preserved
loop-n-preserved c = (
  omega (arith, c.enter_number.auto, c.loop-n.invariant.0),
  c.enter_number.ensures.body ∙ c.loop-n.invariant.1,
  c.enter_number.ensures.more c.loop-n.invariant.2,
)

pub returns : goal.returns
returns c =
    let e : 3 * c.loop-n.n ≡ 3 * rule_count = omega arith in
    record { body = c.loop-n.invariant.1; all = subst (Listing c.loop-n.p) e c.loop-n.invariant.2 }
