-- The invariant is that the places below q are classed and the chains hold those that begin a class; each turn adds one.
use borrow.Author.Rules.{rules}
use native.Mathlib.Omega.{arith}
use mathlib.Core.Path.{◌≡◌, sym, subst}
use Prim.Native.Nat.{ℕ, ◌+◌, ◌*◌}
use lib.ListN.{length}
use Rattle.facts.specs.Owed.{room_kept}
use Rattle.trace.specs.Chains.{HeadsBehind, Classed}
use Rattle.trace.specs.Chains.Laws.{behind_less}
use Rattle.trace.specs.Chains.Steps.{classed_none}
use Rattle.trace.specs.Classes.{key_at}
use Rattle.trace.specs.Classes.Places.{ready_few, ready_classing}
use Rattle.trace.proofs.classes.class_places.Goals as goal

pub overflow_mul-end : goal.overflow_mul-end
overflow_mul-end c =
    omega (arith, ready_few c.requires.0.2)

pub loop-q-init : goal.loop-q-init
loop-q-init c = (
  search rules,
  search rules,
  search rules,
  λ P xs r. classed_none (key_at P xs) _ _
      c.requires.4,
)

pub class_place-requires : goal.class_place-requires
class_place-requires c =
    let (P, xs, r) = c.requires.0 in (
      (c.args.classes.now, P, xs, ready_classing r _ c.loop-q-test.true (c.loop-q.invariant.3 P xs r)),
      room_kept _ _ _ c.loop-q.invariant.0 c.requires.1,
      omega (arith, c.loop-q.invariant.1, c.requires.2, c.loop-q-test.true),
      subst (λ (n : ℕ). HeadsBehind n (c.loop-q.q + 1)) (sym c.loop-q.invariant.2) (behind_less c.requires.3 (omega (arith, c.loop-q-test.true))),
    )

pub loop-q-preserved : goal.loop-q-preserved
loop-q-preserved c = (
  search rules,
  search rules,
  search rules,
  λ P xs r. c.class_place.ensures _ P xs
      (ready_classing r _ c.loop-q-test.true (c.loop-q.invariant.3 P xs r)),
)

pub returns : goal.returns
returns c =
    λ P xs r. let e : c.loop-q.q ≡ 8 * length c.args.entries.now = omega arith in
    subst (λ (m : ℕ). Classed (key_at P xs) c.args.classes.now c.loop-q.classes c.loop-q.chains m) e (c.loop-q.invariant.3 P xs r)
