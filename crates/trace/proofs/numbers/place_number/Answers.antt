-- Below the count there is such an argument, and it is numbered; from there on the place is empty.
use Rattle.trace.specs.Numbers.Places.{counted_one, argument_there, argument_missing}
use native.Mathlib.Omega.{arith}
use Rattle.trace.proofs.numbers.place_number.Goals as goal

pub argument_number-requires : goal.argument_number-requires
argument_number-requires c =
    let (P, m, f) = c.requires.1 in (c.requires.0, (P, m, counted_one f _ c.if-j-count.true), c.requires.2)

pub returns-then-j-count : goal.returns-then-j-count
returns-then-j-count c =
    λ P m f. argument_there f _ c.if-j-count.true _ (c.argument_number.ensures P m (counted_one f _ c.if-j-count.true))

pub returns : goal.returns
returns c =
    λ P m f. argument_missing f _ (omega (arith, c.if-j-count.false))
