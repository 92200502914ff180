-- The invariant is that what is written and the rows from the next on are the whole side; each turn writes a factor as often as it rises.
use Rattle.product.proofs.LayPaths.{lay_held, next_place, next_some, next_there, place_end, laying_first, laying_done, lay_put, laying_next}
use Rattle.product.proofs.RisePaths.{rises_asks}
use native.Mathlib.Omega.{arith}
use mathlib.Core.Path.{refl, ◌∙◌}
use Rattle.product.proofs.write_rows.Goals as goal

pub next_row-next-requires : goal.next_row-next-requires
next_row-next-requires c =
    let r = c.args in (omega arith, lay_held r.entries.now r.minus r.out.now r.o 0 c.requires)

pub loop-next-init : goal.loop-next-init
loop-next-init c =
    let r = c.args in
    let N = c.next_row-next.ensures in record {
      long = refl;
      inside = λ i e. next_there r.entries.now 0 r.minus _ i N e;
      laying = λ l L. laying_first r.entries.now r.minus r.o r.out.now _ (next_place r.entries.now 0 r.minus _ N) l L;
    }

pub bounds-entries-i : goal.bounds-entries-i
bounds-entries-i c =
    c.loop-next.invariant.inside _ c.in-Some.is

pub rises-c-requires : goal.rises-c-requires
rises-c-requires c =
    let r = c.args in
    rises_asks r.entries.now 0 r.minus (lay_held r.entries.now r.minus r.out.now r.o 0 c.requires) _ (c.loop-next.invariant.inside _ c.in-Some.is)

pub next_row-next-requires-in-Some : goal.next_row-next-requires-in-Some
next_row-next-requires-in-Some c =
    let r = c.args in
    let h = c.loop-next.invariant.inside _ c.in-Some.is in (omega (arith, h), lay_held r.entries.now r.minus r.out.now r.o 0 c.requires)

pub put_factor-p-requires : goal.put_factor-p-requires
put_factor-p-requires c =
    let r = c.args in
    let g = c.loop-next in
    let N = c.next_row-next-in-Some.ensures in
    lay_put r.entries.now r.minus r.o r.out.now g.out g.invariant.long g.p _ (g.invariant.inside _ c.in-Some.is)
    (lay_held r.entries.now r.minus r.out.now r.o 0 c.requires) _ c.rises-c.ensures _ (next_place r.entries.now _ r.minus _ N) _
    (c.is_some.ensures ∙ next_some r.entries.now _ r.minus _ N) _ c.requires.1 (rw c.in-Some.is at (g.invariant.laying _ c.requires.1))

pub loop-next-smaller : goal.loop-next-smaller
loop-next-smaller c =
    let r = c.args in
    let h = c.loop-next.invariant.inside _ c.in-Some.is in
    let N = next_place r.entries.now _ r.minus _ c.next_row-next-in-Some.ensures in rw c.in-Some.is (omega (arith, N.from, N.within, h))

pub loop-next-preserved : goal.loop-next-preserved
loop-next-preserved c =
    let r = c.args in
    let g = c.loop-next in
    let N = c.next_row-next-in-Some.ensures in record {
      long = c.put_factor-p.auto.out ∙ g.invariant.long;
      inside = λ i e. next_there r.entries.now _ r.minus _ i N e;
      laying = λ l L. laying_next r.entries.now r.minus r.o r.out.now g.out g.invariant.long g.p _ (g.invariant.inside _ c.in-Some.is)
          (lay_held r.entries.now r.minus r.out.now r.o 0 c.requires) _ c.rises-c.ensures _ (next_place r.entries.now _ r.minus _ N) _
          (c.is_some.ensures ∙ next_some r.entries.now _ r.minus _ N) l L (rw c.in-Some.is at (g.invariant.laying l L)) _ _ c.put_factor-p.ensures;
    }

pub shape_of-out : goal.shape_of-out
shape_of-out c =
    c.loop-next.invariant.long

pub returns : goal.returns
returns c =
    let r = c.args in λ l L. laying_done r.entries.now r.minus r.o r.out.now _ _ _
    l L (c.loop-next.invariant.laying l L) (place_end r.entries.now _ c.in_default.not-Some)
