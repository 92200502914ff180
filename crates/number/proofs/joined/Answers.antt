-- The two cases of `joined`: the rest may not be zero, else it counts `weight` times.
use Rattle.number.specs.Reading.Numbers.{joined_zero, joined_some}
use native.Mathlib.Nat.{mul-le-mul_left}
use native.Mathlib.Omega.{arith}
use mathlib.Core.Path.{sym}
use Rattle.number.proofs.joined.Goals as goal

pub returns-then-v-eq0 : goal.returns-then-v-eq0
returns-then-v-eq0 c =
    sym (joined_zero c.args.low c.args.weight c.args.v c.args.e c.if-v-eq0.true)

pub overflow_mul-result : goal.overflow_mul-result
overflow_mul-result c =
    omega (arith, mul-le-mul_left {m = c.args.v} {n = 127} c.args.weight (omega arith))

pub overflow_add-result : goal.overflow_add-result
overflow_add-result c =
    omega (arith, mul-le-mul_left {m = c.args.v} {n = 127} c.args.weight (omega arith))

pub returns : goal.returns
returns c =
    sym (joined_some c.args.low c.args.weight c.args.v c.args.e c.if-v-eq0.false)
