-- The ruling of the nodes is the graph's where it refuses; where it does not, they are right, and the edges decide.
use Rattle.std.proofs.lemmas.Result.{err_from_is_err_and}
use Rattle.graph.specs.Ruling.{nodes_refused, nodes_passed, read_right}
use Rattle.graph.proofs.ruling.rule_read.Goals as goal

pub returns-in_err-rule_nodes : goal.returns-in_err-rule_nodes
returns-in_err-rule_nodes c =
    let p = err_from_is_err_and c.from_residual.result c.from_residual.ensures.1 in
    rw (p.1, p.2) (λ P g h. nodes_refused P g c.rule_nodes.result (c.rule_nodes.ensures P g.nodes h.nodes_in) _ c.in_err-rule_nodes.was)

pub rule_edges-requires : goal.rule_edges-requires
rule_edges-requires c =
    let (P, g, h) = c.requires.0 in
    let told = c.rule_nodes.ensures P g.nodes h.nodes_in in
    ((P, g, read_right P g c.rule_nodes.result told c.in_ok-rule_nodes.was h.nodes_in.within h), c.requires.1)

pub returns : goal.returns
returns c =
    λ P g h.
    let told = c.rule_nodes.ensures P g.nodes h.nodes_in in
    nodes_passed P g c.rule_nodes.result told c.in_ok-rule_nodes.was h.nodes_in.within
    c.rule_edges.result (c.rule_edges.ensures P g (read_right P g c.rule_nodes.result told c.in_ok-rule_nodes.was h.nodes_in.within h))
