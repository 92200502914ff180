-- No node 0, none past the last, no fact 0; else the fact is there exactly if its number is at most the count.
use native.Mathlib.Omega.{arith}
use Prim.Native.Nat.{◌-◌, ◌<◌, ◌≤◌}
use lib.ListN.{length, get_or}
use Rattle.steps.specs.Nodes.{no_node}
use Rattle.steps.specs.Table.Laws.{node_in}
use Rattle.graph.specs.Ends.{no_node_lem, node_past, no_index, index_there}
use Rattle.graph.proofs.ends.end_there.Goals as goal

pub returns-then-node-eq0 : goal.returns-then-node-eq0
returns-then-node-eq0 c =
    λ s P xs h. no_node_lem P c.args.list xs c.args.node c.args.index c.if-node-eq0.true

pub returns-then-n-node : goal.returns-then-n-node
returns-then-n-node c =
    λ s P xs h.
    let l : length xs < c.args.node = omega (arith, h.count) in
    node_past P c.args.list xs c.args.node c.args.index l

pub returns-then-index-eq0 : goal.returns-then-index-eq0
returns-then-index-eq0 c =
    λ s P xs h. no_index P c.args.list xs c.args.node c.args.index c.if-index-eq0.true

pub fact_count-count-requires : goal.fact_count-count-requires
fact_count-count-requires c =
    let (s, P, xs, h) = c.requires.0 in
    ((s, P, get_or xs (c.args.node - 1) no_node, node_in h (c.args.node - 1) (omega arith)), omega (arith, c.requires.1))

pub returns : goal.returns
returns c =
    λ s P xs h.
    let l : c.args.node ≤ length xs = omega (arith, h.count) in
    index_there P c.args.list xs c.args.node c.args.index c.fact_count-count.result c.if-node-eq0.false l c.if-index-eq0.false
    (c.fact_count-count.ensures s P _ (node_in h (c.args.node - 1) (omega arith)))
