-- A count up to 4,096 and that many edges, or a fault: the cases of `edge_list`.
use native.Mathlib.Omega.{arith}
use mathlib.Core.Path.{ap, sym, ◌∙◌}
use Rattle.number.specs.Reading.{as_read}
use Rattle.number.specs.Reading.Numbers.{below_inside}
use Rattle.graph.specs.Table.Reading.{edges_told, edges_none}
use Rattle.graph.proofs.edges.read_edges.Goals as goal

pub edges_from-requires : goal.edges_from-requires
edges_from-requires c =
    let b = below_inside _ _ _ (λ i. (c.type_inv.s i).fits) _ _ (sym c.below.ensures ∙ ap as_read c.in_ok-m.was) in
    (omega (arith, b.small), c.requires)

pub returns : goal.returns
returns c =
    edges_told c.args.s.now c.args.at _ _ c.edges_from.new.edges c.edges_from.result
    (sym c.below.ensures ∙ ap as_read c.in_ok-m.was) c.edges_from.ensures

pub returns-in_err-m : goal.returns-in_err-m
returns-in_err-m c =
    rw c.from_residual.ensures (edges_none c.args.s.now c.args.at (sym c.below.ensures ∙ ap as_read c.in_err-m.was))
