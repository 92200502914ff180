-- The fact is written at the start of the output, so the mark of that part, from its symbol on, is the fact's.
use lib.Seq.{length-take-le}
use mathlib.Core.Path.{sym}
use native.Mathlib.Omega.{arith}
use Rattle.facts.specs.Calls.Meaning.{fact_formed}
use Rattle.facts.specs.Calls.{fact_at}
use Rattle.facts.specs.Kept.{written_kept}
use Rattle.facts.specs.Marks.{fact_marked, symbol_small, put_inside}
use Rattle.facts.proofs.marks.keep_fact.Goals as goal

pub slice_bounds-mark_bytes-end : goal.slice_bounds-mark_bytes-end
slice_bounds-mark_bytes-end c =
    let (P, m, f) = c.requires.0 in put_inside _ _ _ _ (c.node_fact-a.ensures P m f).put (omega (arith, c.requires.1.enough))

pub slice_bounds-mark_bytes-end-2 : goal.slice_bounds-mark_bytes-end-2
slice_bounds-mark_bytes-end-2 c =
    let (P, m, f) = c.requires.0 in sym (length-take-le _ _ (put_inside _ _ _ _ (c.node_fact-a.ensures P m f).put (omega (arith, c.requires.1.enough))))

pub overflow_cast-a : goal.overflow_cast-a
overflow_cast-a c =
    let (P, m, f) = c.requires.0 in let b = symbol_small P f.node.prepared.body.within _ (fact_formed f) _ (c.node_fact-a.ensures P m f).symbols in
    omega (arith, b)

pub mark_bytes-mark-requires : goal.mark_bytes-mark-requires
mark_bytes-mark-requires c =
    let (P, m, f) = c.requires.0 in symbol_small P f.node.prepared.body.within _ (fact_formed f) _ (c.node_fact-a.ensures P m f).symbols

pub returns : goal.returns
returns c =
    λ P m h. let a = c.node_fact-a.ensures P m h in let g = fact_at P c.args.x.list c.args.x.number m in written_kept g _ _ _ a.put
    a.symbols (fact_marked g _ _ _ _ _ a.put a.symbols c.mark_bytes-mark.ensures)
