-- The ranges of the match are those of `numbered`, and each arm's answer is that range's.
use native.Mathlib.Omega.{arith}
use Prim.Native.Nat.{◌-◌, ◌<◌}
use lib.ListN.{take}
use Rattle.rules.specs.Numbered.{fixed, nothing}
use Rattle.rules.specs.Numbered.Writing.{put_holds}
use Rattle.rules.specs.Numbered.Map.{number_apply, number_own, number_signing, number_nothing}
use Rattle.rules.specs.Numbered.Slots.{slot_own, slot_own_signing}
use Rattle.rules.specs.Numbered.Found.{of_number, of_fixed, finds_applied, finds_own}
use lib.ListN.{length}
use Rattle.rules.proofs.numbered.find_rule.Goals as goal

pub returns-in-0-to-4 : goal.returns-in-0-to-4
returns-in-0-to-4 c =
    λ file ns ars flags i.
    let l : c.args.number < 5 = omega arith in
    record {
      its = fixed c.args.number;
      is = of_fixed i.is c.args.number l;
      has_slot = slot_own c.args.number (omega arith);
      holds = put_holds c.put_fixed.ensures;
    }

pub returns-in-5-to-14 : goal.returns-in-5-to-14
returns-in-5-to-14 c =
    λ file ns ars flags i. finds_applied i.is c.args.number file c.args.arities.now (take ns ars) c.apply_rule.new.out
    (c.args.number - 2) (number_apply c.args.number (omega arith) (omega arith)) (slot_own c.args.number (omega arith))
    c.apply_rule.result
    (c.apply_rule.ensures i.is.functions i.within.arities i.slotted)

pub returns-in-15-to-30 : goal.returns-in-15-to-30
returns-in-15-to-30 c =
    λ file ns ars flags i. finds_applied i.is c.args.number file c.args.arities.now (take ns ars)
    c.apply_rule-in-15-to-30.new.out
    (c.args.number - 2) (number_apply c.args.number (omega arith) (omega arith)) (slot_own c.args.number (omega arith))
    c.apply_rule-in-15-to-30.result
    (c.apply_rule-in-15-to-30.ensures i.is.functions i.within.arities i.slotted)

pub returns-in-31-to-94 : goal.returns-in-31-to-94
returns-in-31-to-94 c =
    λ file ns ars flags i. finds_own i.is c.args.number file c.args.arities.now (take ns ars) c.args.out.now c.args.places.now
    (length c.args.places.now) i.placed (number_own c.args.number (omega arith) (omega arith)) c.own_rule.result c.own_rule.ensures

pub returns-in-95-to-100 : goal.returns-in-95-to-100
returns-in-95-to-100 c =
    λ file ns ars flags i. finds_applied i.is c.args.number file c.args.arities.now (take ns ars)
    c.apply_rule-in-95-to-100.new.out
    (c.args.number - 66) (number_signing c.args.number (omega arith) (omega arith)) (slot_own_signing c.args.number (omega arith))
    c.apply_rule-in-95-to-100.result
    (c.apply_rule-in-95-to-100.ensures i.is.functions i.within.arities i.slotted)

pub returns-in_default : goal.returns-in_default
returns-in_default c =
    λ file ns ars flags i. of_number i.is c.args.number nothing (number_nothing c.args.number (omega arith))
