-- The answer for the nodes is the graph's where they do not read; where they do, what is behind them decides.
use Rattle.std.proofs.Common.{◌≡◌, arith}
use Rattle.std.specs.Prelude.{Some}
use Rattle.std.proofs.lemmas.Result.{err_from_is_err_and}
use Rattle.steps.specs.Nodes.Code.{fault_of}
use Rattle.graph.specs.Reading.{graph_told, edges_broken, graph_fault}
use Rattle.graph.proofs.reading.read_graph.Goals as goal

pub returns-in_err-n : goal.returns-in_err-n
returns-in_err-n c =
    let p = err_from_is_err_and c.from_residual.result c.from_residual.ensures.1 in
    rw (p.1, p.2)
    (λ P f. graph_fault P c.args.p.now c.args.s.now c.read_nodes.new.nodes c.read_nodes.result (c.read_nodes.ensures P f) c.args.edges.now _ c.in_err-n.was)

pub returns-in_err-m : goal.returns-in_err-m
returns-in_err-m c =
    let r = c.from_residual-in_err-m in
    let h = fault_of c.behind_nodes.result r.result r.ensures.1 c.in_err-m.was c.ok_or.ensures.value in
    rw h.0
    (λ P f. edges_broken P c.args.p.now c.args.s.now c.read_nodes.new.nodes c.read_nodes.result (c.read_nodes.ensures P f) c.in_ok-n.was
    (rw h.1 at c.behind_nodes.ensures))

pub returns : goal.returns
returns c =
    λ P f.
    let there : c.behind_nodes.result ≡ Some c.in_ok-m.m = grind (arith, c.ok_or.ensures.value, c.in_ok-m.was) in
    graph_told P c.args.p.now c.args.s.now c.read_nodes.new.nodes c.read_nodes.result (c.read_nodes.ensures P f) c.in_ok-n.was _
    (rw there at c.behind_nodes.ensures)
