-- Where more comes all copies have the tag of mul before them; else the last has none.
use Rattle.product.proofs.PutPaths.{all_asks, all_wrote, but_last_asks, last_asks, last_wrote}
use mathlib.Core.Path.{refl}
use native.Mathlib.Omega.{arith}
use Rattle.product.proofs.put_factor.Goals as goal

pub put_all-requires : goal.put_all-requires
put_all-requires c =
    let r = c.args in all_asks r.out.now r.o r.a r.e r.n r.more c.requires c.if-more.true

pub returns-then-more : goal.returns-then-more
returns-then-more c =
    let r = c.args in all_wrote r.out.now r.o r.a r.e r.n r.more c.requires c.if-more.true _ _ c.put_all.ensures

pub put_many-p-requires : goal.put_many-p-requires
put_many-p-requires c =
    let r = c.args in but_last_asks r.out.now r.o r.a r.e r.n r.more c.requires c.if-more.false

pub copy_within-requires : goal.copy_within-requires
copy_within-requires c =
    let r = c.args in last_asks r.out.now r.o r.a r.e r.n r.more c.requires c.if-more.false _ _ c.put_many-p.ensures
    c.put_many-p.auto.out

pub overflow_add-result : goal.overflow_add-result
overflow_add-result c =
    let r = c.args in let z = last_asks r.out.now r.o r.a r.e r.n r.more c.requires c.if-more.false _ _ c.put_many-p.ensures
    c.put_many-p.auto.out in
    omega (arith, z.1)

pub returns : goal.returns
returns c =
    let r = c.args in last_wrote r.out.now r.o r.a r.e r.n r.more c.requires c.if-more.false _ _ c.put_many-p.ensures
    c.put_many-p.auto.out _ _ refl c.copy_within.ensures
