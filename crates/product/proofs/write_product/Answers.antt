-- The table that `collect` fills over the terms is the one whose product is written behind them.
use Rattle.product.proofs.ProductPaths.{collect_asks, few, table_asks, table_wrote}
use lib.Seq.{length-take-le}
use mathlib.Core.Path.{sym}
use native.Mathlib.Omega.{arith}
use Rattle.product.proofs.write_product.Goals as goal

pub slice_bounds-collect-end-2 : goal.slice_bounds-collect-end-2
slice_bounds-collect-end-2 c =
    c.requires.1.inside

pub slice_bounds-collect-end-3 : goal.slice_bounds-collect-end-3
slice_bounds-collect-end-3 c =
    sym (length-take-le _ _ c.requires.1.inside)

pub collect-f-requires : goal.collect-f-requires
collect-f-requires c =
    let r = c.args in collect_asks r.arities.now r.out.now r.at r.k r.e _ (omega arith) c.requires

pub slice_bounds-entries-end : goal.slice_bounds-entries-end
slice_bounds-entries-end c =
    let r = c.args in few r.arities.now r.out.now r.at r.k r.e _ (omega arith) _ _ c.collect-f.ensures c.collect-f.auto.entries c.requires

pub slice_bounds-write_table-end : goal.slice_bounds-write_table-end
slice_bounds-write_table-end c =
    let r = c.args in
    sym (length-take-le _ _ (few r.arities.now r.out.now r.at r.k r.e _ (omega arith) _ _ c.collect-f.ensures c.collect-f.auto.entries c.requires))

pub write_table-requires : goal.write_table-requires
write_table-requires c =
    let r = c.args in table_asks r.arities.now r.out.now r.at r.k r.e _ (omega arith) _ _ c.collect-f.ensures c.collect-f.auto.entries c.requires

pub returns : goal.returns
returns c =
    let r = c.args in table_wrote r.arities.now r.out.now r.at r.k r.e _ (omega arith) _ _ c.collect-f.ensures c.collect-f.auto.entries _ _
    c.write_table.ensures
