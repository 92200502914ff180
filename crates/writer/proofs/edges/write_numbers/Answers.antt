-- What was written is the first numbers' bytes, one behind the other.
use Rattle.writer.specs.Edges.Laws.{all_room, wrote_none, wrote_room, wrote_more, wrote_whole}
use mathlib.Core.Path.{refl}
use native.Mathlib.Omega.{arith}
use Rattle.writer.proofs.edges.write_numbers.Goals as goal

pub loop-n-init : goal.loop-n-init
loop-n-init c =
    λ room long. wrote_none _ _ _ _ room long

pub write_number-o-requires : goal.write_number-o-requires
write_number-o-requires c =
    let room = all_room c.args.output.now c.args.numbers.now c.args.at c.requires in
    wrote_room _ _ _ _ room (omega arith) (omega (arith, c.loop-n-test.true)) (c.loop-n.invariant room (omega arith)) c.loop-n-test.true

pub loop-n-preserved : goal.loop-n-preserved
loop-n-preserved c =
    λ room long. wrote_more _ _ _ _ room long (omega (arith, c.loop-n-test.true)) (c.loop-n.invariant room long) c.loop-n-test.true
    c.write_number-o.ensures.next c.write_number-o.ensures.wrote

pub returns : goal.returns
returns c =
    let room = all_room c.args.output.now c.args.numbers.now c.args.at c.requires in
    wrote_whole _ _ _ _ room (omega arith) refl (omega (arith, c.loop-n-test.false, c.loop-n.auto.n-index-end))
    (c.loop-n.invariant room (omega arith))
