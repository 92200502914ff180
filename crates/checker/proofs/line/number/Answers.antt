-- A blank and the figures lie end to end; a number of 64 bits has at most twenty.
use mathlib.Core.Path.{◌∙◌}
use Prim.Native.Nat.{ℕ}
use lib.ListN.{length-set}
use Rattle.checker.specs.Line.Laws.{decimal_few, put_one, put_then}
use Rattle.checker.specs.Line.{blank}
use native.Mathlib.Omega.{arith}
use Rattle.checker.proofs.line.number.Goals as goal

pub decimal-requires : goal.decimal-requires
decimal-requires c =
    omega (arith, decimal_few c.args.n (omega (arith, c.ranges.n)), length-set c.args.out.now c.args.at blank, c.requires)

pub shape_of-out : goal.shape_of-out
shape_of-out c =
    c.decimal.auto.out ∙ length-set {A = ℕ} c.args.out.now c.args.at blank

pub returns : goal.returns
returns c =
    let d = c.decimal in record { wrote = put_then (omega (arith, c.requires)) (put_one c.args.out.now c.args.at blank (omega (arith, c.requires))) d.ensures; fits = omega (arith, decimal_few c.args.n (omega (arith, c.ranges.n)), d.ensures.ends) }
