-- Both variables are bound to node numbers, so their order or equality is the atom's.
use Rattle.judge.specs.Judging.Atoms.{said_times}
use Rattle.judge.proofs.judging.times.Goals as goal

pub returns : goal.returns
returns c =
    λ table tr base. said_times c.args.file.now table tr base c.args.bound.now.count c.args.bound.now.values c.args.at c.args.order
    c.read-i.ensures c.read-j.ensures c.slot-x.ensures c.slot-y.ensures
