-- Each turn takes one group off the rest; the bytes counted and the groups of the rest are together one more than the number's groups.
use Rattle.number.specs.Groups.Laws.{groups_one, groups_more, groups_short}
use native.Mathlib.Omega.{arith}
use mathlib.Core.Path.{ap}
use lib.ListN.{length}
use Rattle.number.proofs.number_len.Goals as goal

pub loop-rest-init : goal.loop-rest-init
loop-rest-init c =
    omega arith

pub overflow_add-len : goal.overflow_add-len
overflow_add-len c =
    omega (arith, groups_short c.args.n)

pub loop-rest-smaller : goal.loop-rest-smaller
loop-rest-smaller c =
    omega arith

pub loop-rest-preserved : goal.loop-rest-preserved
loop-rest-preserved c =
    omega (arith, ap length (groups_more c.loop-rest.rest c.loop-rest-test.true))

pub returns : goal.returns
returns c =
    omega (arith, ap length (groups_one c.loop-rest.rest c.loop-rest-test.false))
