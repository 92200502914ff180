-- Two codes stand for the same message exactly if their class numbers are equal.
use Rattle.judge.specs.Judging.Atoms.{said_equal}
use Rattle.judge.specs.Reading.Parts.{code_fits}
use native.Mathlib.Omega.{arith}
use Rattle.judge.proofs.judging.equal.Goals as goal

pub overflow_cast-t : goal.overflow_cast-t
overflow_cast-t c =
    omega (arith, code_fits c.term-t.ensures)

pub overflow_cast-u : goal.overflow_cast-u
overflow_cast-u c =
    omega (arith, code_fits c.term-u.ensures)

pub returns : goal.returns
returns c =
    λ table tr. said_equal c.args.file.now table tr c.args.base c.args.bound.now.count c.args.bound.now.values c.args.at
    c.term-t.ensures c.term-u.ensures c.class_of-x.ensures c.class_of-y.ensures
