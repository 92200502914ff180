-- The four cases of a sign and a side; the bound lets the exponent be turned and cast.
use Rattle.product.proofs.RisePaths.{turn_fits, down_casts, down_is, down_not, up_casts, up_is, up_not}
use Rattle.product.proofs.rises.Goals as goal

pub overflow_sub-q : goal.overflow_sub-q
overflow_sub-q c =
    turn_fits c.args.p c.requires

pub overflow_cast-result : goal.overflow_cast-result
overflow_cast-result c =
    down_casts c.args.p c.requires c.if-p-lt0.true

pub returns-then-p-lt0 : goal.returns-then-p-lt0
returns-then-p-lt0 c =
    down_is c.args.p c.requires c.if-p-lt0.true _ c.if-minus.true

pub returns-then-minus : goal.returns-then-minus
returns-then-minus c =
    down_not c.args.p c.requires c.if-p-lt0.false _ c.if-minus.true

pub overflow_cast-result-then-p-gt0 : goal.overflow_cast-result-then-p-gt0
overflow_cast-result-then-p-gt0 c =
    up_casts c.args.p c.requires c.if-p-gt0.true

pub returns-then-p-gt0 : goal.returns-then-p-gt0
returns-then-p-gt0 c =
    up_is c.args.p c.requires c.if-p-gt0.true _ c.if-minus.false

pub returns : goal.returns
returns c =
    up_not c.args.p c.requires c.if-p-gt0.false _ c.if-minus.false
