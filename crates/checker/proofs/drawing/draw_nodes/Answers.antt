-- Each node has eight premises at most, so either table has fields for the edges of its nodes.
use native.Mathlib.Omega.{arith}
use Rattle.checker.proofs.drawing.draw_nodes.Goals as goal

pub draw_edges-requires : goal.draw_edges-requires
draw_edges-requires c =
    (c.requires.0, c.requires.1, omega (arith, c.if-n-le-FEW_NODES.true), c.requires.2)

pub draw_edges-requires-2 : goal.draw_edges-requires-2
draw_edges-requires-2 c =
    let (P, xs, d) = c.requires.0 in (c.requires.0, c.requires.1, omega (arith, d.right.stand.few), c.requires.2)
