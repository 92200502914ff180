-- A name that stands among the entries ends the search; another is entered behind them; a node that makes none leaves them as they are.
use Rattle.steps.specs.Names.Laws.{again_none, again_some, entered_more, entered_same, names_more, names_twice}
use Rattle.steps.specs.Table.Laws.{node_in}
use Rattle.steps.specs.Nodes.{no_node}
use Prim.Native.Nat.{◌<◌}
use lib.ListN.{length, get_or, length-set}
use mathlib.Core.Path.{sym, ◌∙◌, ap}
use native.Mathlib.Omega.{arith}
use Rattle.steps.proofs.names.pass_in.Goals.{in-Some+else-contains, in_default}
use Rattle.steps.proofs.names.pass_in.Goals as goal

pub made_at-requires : goal.made_at-requires
made_at-requires g c =
    let q = c.requires.0 in
    (q.0, get_or q.1 c.loop-j.j no_node, node_in q.2 c.loop-j.j c.loop-j-test.true)

pub returns-then-contains : goal.returns-then-contains
returns-then-contains g c =
    λ P xs h.
    let (e, r) = c.loop-j.invariant.2 P xs h in
    let m = c.in-Some.ensures P _ (node_in h c.loop-j.j c.loop-j-test.true) in
    names_twice P no_node xs c.loop-j.j (omega (arith, h.count, c.loop-j-test.true))
    (sym (again_some e _ m) ∙ sym c.contains.ensures.value ∙ c.if-contains.true) r

pub loop-j-preserved : goal.loop-j-preserved
loop-j-preserved g c = elim c.match-made_at.branch [
  | in-Some+else-contains w ↦ (
    omega (arith, w.made-is, c.loop-j.invariant.0),
    ap length w.names-is ∙ length-set _ _ _ ∙ c.loop-j.invariant.1,
    λ P xs h.
        let (e, r) = c.loop-j.invariant.2 P xs h in
        let m = w.in-Some.ensures P _ (node_in h c.loop-j.j c.loop-j-test.true) in
        let l : c.loop-j.j < length xs = omega (arith, h.count, c.loop-j-test.true) in
        let b : c.loop-j.made < length c.loop-j.names = omega (arith, c.loop-j.invariant.0, c.loop-j.invariant.1, c.loop-j-test.true, c.requires.1) in (
          rw (w.names-is, w.made-is) (entered_more e _ m l b),
          names_more P no_node xs c.loop-j.j l (sym (again_some e _ m) ∙ sym w.contains.ensures.value ∙ w.if-contains.false) r,
        ),
  )
  | in_default w ↦ (
    omega (arith, w.made-is, c.loop-j.invariant.0),
    ap length w.names-is ∙ c.loop-j.invariant.1,
    λ P xs h.
        let (e, r) = c.loop-j.invariant.2 P xs h in
        let m = w.in_default.ensures P _ (node_in h c.loop-j.j c.loop-j-test.true) in
        let l : c.loop-j.j < length xs = omega (arith, h.count, c.loop-j-test.true) in
        (rw (w.names-is, w.made-is) (entered_same e m l), names_more P no_node xs c.loop-j.j l (sym (again_none xs c.loop-j.j m)) r),
  )
]
