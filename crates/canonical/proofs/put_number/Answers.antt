-- What write_number writes.
use Rattle.number.specs.Groups.{groups}
use Rattle.canonical.proofs.Writes.{spliced}
use Rattle.canonical.proofs.put_number.Goals as goal

pub returns : goal.returns
returns c =
    spliced c.args.out.now c.args.o (groups c.args.n) _ _ c.requires c.write_number.ensures.next
    c.write_number.ensures.wrote
