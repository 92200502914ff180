-- The invariant is that i lies behind the first j sorts, where they read.
use Rattle.judge.specs.Reading.Lists.{sorting_begins, sorting_next, sorting_ends}
use Rattle.std.proofs.Common.{arith}
use Rattle.judge.proofs.reading.pass_sorts.Goals as goal

pub loop-init : goal.loop-init
loop-init c =
    sorting_begins c.args.file.now c.args.at c.args.k

pub loop-preserved : goal.loop-preserved
loop-preserved c =
    sorting_next c.args.file.now (omega arith) c.loop.invariant c.read-i.ensures

pub returns : goal.returns
returns c =
    sorting_ends c.args.file.now (λ z. omega arith) c.loop.invariant
