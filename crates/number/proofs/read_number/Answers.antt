-- Each turn puts one group to the value so far; the number is always what the groups so far make of the rest (`Sofar`).
use Rattle.number.specs.Reading.Stepwise.{Sofar, sofar_first, sofar_none, sofar_end, sofar_room, sofar_small, sofar_last, sofar_more}
use Rattle.number.specs.Reading.Numbers.{number_in, now_end, now_one}
use Rattle.number.specs.Groups.{most_groups}
use native.Mathlib.Omega.{arith}
use mathlib.Core.Path.{◌≡◌, subst, sym, ◌∙◌}
use Prim.Native.Nat.{◌+◌, ◌-◌, ◌*◌}
use lib.ListN.{get_or}
use Rattle.number.proofs.read_number.Goals as goal

pub returns-then-file-at : goal.returns-then-file-at
returns-then-file-at c =
    sym (now_end c.args.file.now c.args.at most_groups c.if-file-at.true) ∙ number_in
    c.args.file.now c.args.at

pub returns-then-b-lt-TOP_BIT : goal.returns-then-b-lt-TOP_BIT
returns-then-b-lt-TOP_BIT c =
    sym (now_one c.args.file.now c.args.at most_groups (λ z. omega arith) (omega (arith, c.if-file-at.false)) c.if-b-lt-TOP_BIT.true) ∙ number_in
    c.args.file.now c.args.at

pub overflow_cast-low : goal.overflow_cast-low
overflow_cast-low c =
    omega (arith, c.type_inv.file c.args.at)

pub loop-i-init : goal.loop-i-init
loop-i-init c =
    let left : most_groups - 1 ≡ c.args.at + most_groups - (c.args.at + 1) = omega arith in
    subst (Sofar c.args.file.now c.args.at (c.args.at + 1) (get_or c.args.file.now c.args.at 0 - 128) 128) left
    (sofar_first c.args.file.now c.args.at (omega (arith, c.if-file-at.false)) c.if-b-lt-TOP_BIT.false
    (omega (arith, c.type_inv.file c.args.at)))

pub returns-then-file-i : goal.returns-then-file-i
returns-then-file-i c =
    sym (sofar_end c.loop-i.invariant c.if-file-i.true)

pub joined-requires : goal.joined-requires
joined-requires c =
    (c.loop-i.invariant.small, sofar_room c.loop-i.invariant (omega (arith, c.loop-i-test.true)), c.if-c-lt-TOP_BIT.true)

pub returns-then-c-lt-TOP_BIT : goal.returns-then-c-lt-TOP_BIT
returns-then-c-lt-TOP_BIT c =
    c.joined.ensures ∙ sym (sofar_last c.loop-i.invariant (omega (arith, c.loop-i-test.true)) (omega (arith, c.if-file-i.false)) c.if-c-lt-TOP_BIT.true)

pub overflow_cast-low-in-loop-i : goal.overflow_cast-low-in-loop-i
overflow_cast-low-in-loop-i c =
    omega (arith, c.type_inv.file c.loop-i.i)

pub overflow_mul-low : goal.overflow_mul-low
overflow_mul-low c =
    omega (
      arith,
      sofar_room c.loop-i.invariant (omega (arith, c.loop-i-test.true)),
      sofar_small c.loop-i.invariant
          (omega (arith, c.type_inv.file c.loop-i.i)),
    )

pub overflow_add-low : goal.overflow_add-low
overflow_add-low c =
    omega (
      arith,
      sofar_room c.loop-i.invariant (omega (arith, c.loop-i-test.true)),
      sofar_small c.loop-i.invariant
          (omega (arith, c.type_inv.file c.loop-i.i)),
    )

pub overflow_mul-weight : goal.overflow_mul-weight
overflow_mul-weight c =
    omega (arith, sofar_room c.loop-i.invariant (omega (arith, c.loop-i-test.true)))

pub loop-i-preserved : goal.loop-i-preserved
loop-i-preserved c =
    let l = c.loop-i in
    let file = c.args.file.now in
    let at = c.args.at in
    let left : at + most_groups - l.i - 1 ≡ at + most_groups - (l.i + 1) = omega arith in
    subst (Sofar file at (l.i + 1) (l.low + (get_or file l.i 0 - 128) * l.weight) (l.weight * 128)) left
    (sofar_more l.invariant (omega (arith, c.loop-i-test.true)) (omega (arith, c.if-file-i.false)) c.if-c-lt-TOP_BIT.false
    (omega (arith, c.type_inv.file l.i)))

pub returns : goal.returns
returns c =
    sym (sofar_none c.loop-i.invariant (omega (arith, c.loop-i-test.false)))
