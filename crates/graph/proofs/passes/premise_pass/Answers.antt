-- The targets of the edges are counted, and by these counts the least node that fails is the first bad one.
use Rattle.std.proofs.Common.{arith, sym}
use Rattle.rewriting.specs.Checker.{premises_ok}
use Rattle.steps.specs.Runs.{protocol_facts}
use Rattle.steps.specs.Table.Laws.{node_in}
use Rattle.graph.specs.Scan.{nodes_listed, searched}
use Rattle.graph.specs.Uses.Ends.{targets_inside, targets_counted}
use Rattle.graph.proofs.passes.premise_pass.Goals as goal

pub count_ends-requires : goal.count_ends-requires
count_ends-requires c =
    let (s, P, g, h) = c.requires.0 in targets_inside h c.requires.1

pub first_failing-requires : goal.first_failing-requires
first_failing-requires c =
    let (s, P, g, h) = c.requires.0 in
    λ j l. ((s, P, _, node_in h.graph_in.nodes_in.stand j l), omega (arith, c.count_ends.auto, c.requires.1))

pub returns : goal.returns
returns c =
    λ s P g h.
    let nodes = h.graph_in.nodes_in.stand in
    let counts = targets_counted h c.count_ends.new.counts c.count_ends.ensures in
    searched (nodes_listed nodes) (premises_ok (protocol_facts P) g.edges) _
    (λ e j l. sym (c.first_failing.ensures.none e j l s P _ (node_in nodes j l) g.edges counts))
    (λ k e. let (j, is, l, f, before) = c.first_failing.ensures.some k e in
    (j, is, l, sym (f s P _ (node_in nodes j l) g.edges counts), λ i b. sym (before i b s P _ (node_in nodes i (omega (arith, b, l))) g.edges counts)))
