-- The tag, then the rows: the two writes lie end to end.
use mathlib.Core.Path.{◌∙◌}
use lib.ListN.{length-set}
use Rattle.product.proofs.LayPaths.{tag_inside, tagged_asks, tagged_wrote}
use native.Mathlib.Omega.{arith}
use Rattle.product.proofs.write_tagged.Goals as goal

pub bounds-out-o : goal.bounds-out-o
bounds-out-o c =
    let r = c.args in let z = tag_inside r.entries.now r.minus r.out.now r.o r.tag
    c.requires in omega arith

pub write_rows-requires : goal.write_rows-requires
write_rows-requires c =
    let r = c.args in tagged_asks r.entries.now r.minus r.out.now r.o r.tag c.requires

pub shape_of-out : goal.shape_of-out
shape_of-out c =
    let r = c.args in c.write_rows.auto.out ∙ length-set r.out.now r.o r.tag

pub returns : goal.returns
returns c =
    let r = c.args in tagged_wrote r.entries.now r.minus r.out.now r.o
    r.tag _ _ c.write_rows.ensures
