-- A slot above the most arguments is undeclared, and there is no rule; any other is the arity, and its rule is written.
use Rattle.rules.specs.Numbered.Found.{slot_taken, slot_left}
use Rattle.rules.specs.Numbered.Bytes.{applies_room}
use Rattle.rules.specs.Numbered.Writing.{put_holds}
use lib.ListN.{get_or}
use Prim.Native.Nat.{ℕ, ◌≤◌}
use native.Mathlib.Omega.{arith}
use Rattle.rules.proofs.numbered.apply_rule.Goals as goal

pub returns-then-k-gt-MOST_ARITY : goal.returns-then-k-gt-MOST_ARITY
returns-then-k-gt-MOST_ARITY c =
    λ fs small same. slot_left fs c.args.arities.now small same c.args.t (omega arith) c.if-k-gt-MOST_ARITY.true

pub put_apply-requires : goal.put_apply-requires
put_apply-requires c =
    let k : ℕ = get_or c.args.arities.now c.args.t 0 in
    (omega arith, omega arith, omega (arith, applies_room c.args.t k (omega arith) (omega arith)))

pub returns : goal.returns
returns c =
    λ fs small same.
    let l : get_or c.args.arities.now c.args.t 0 ≤ 4 = c.if-k-gt-MOST_ARITY.false in
    record {
      arguments = get_or c.args.arities.now c.args.t 0;
      declared = slot_taken fs c.args.arities.now small same c.args.t
          (omega arith) c.requires.0 l;
      holds = put_holds c.put_apply.ensures;
    }
