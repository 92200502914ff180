-- A graph that passes has right nodes in their table, so it is judged; a refusal is handed on, its number and item in range.
use Rattle.checker.specs.Check.Inside.{good_graph, good_posed, graph_judged, graph_turned, graph_limits}
use native.Mathlib.Omega.{arith}
use Rattle.checker.specs.Check.{ruled_refused}
use Rattle.checker.proofs.checking.check_with.Goals as goal

pub rule_graph-requires : goal.rule_graph-requires
rule_graph-requires c =
    let (P, f, u) = c.requires.0 in ((P, u.prepared), omega (arith, c.requires.1), c.requires.2, c.requires.3, c.requires.4)

pub judge_graph-requires : goal.judge_graph-requires
judge_graph-requires c =
    let (P, f, u) = c.requires.0 in
    let a = c.rule_graph.ensures P u.prepared in (
      (
        P,
        (good_graph P c.args.p.now c.args.graph.now _ c.rule_graph.result a c.in-Ok.is).is.nodes,
        f,
        good_posed P c.args.p.now c.args.graph.now _ c.rule_graph.result a f c.in-Ok.is u.passing,
      ),
      omega (arith, c.rule_graph.auto.work, c.requires.4),
    )

pub refuse-requires : goal.refuse-requires
refuse-requires c =
    let (P, f, u) = c.requires.0 in
    let b = graph_limits P c.args.p.now c.args.graph.now _ c.rule_graph.result (c.rule_graph.ensures P u.prepared) u.prepared
    (λ i. (c.type_inv.graph i).fits) c.in-Err.is in
    (omega (arith, b.0), omega (arith, b.1))

pub returns-in-Ok : goal.returns-in-Ok
returns-in-Ok c =
    λ P f u.
    let a = c.rule_graph.ensures P u.prepared in
    graph_judged P c.args.p.now c.args.graph.now _ c.rule_graph.result a f c.in-Ok.is
    (c.judge_graph.ensures P _ f (good_posed P c.args.p.now c.args.graph.now _ c.rule_graph.result a f
    c.in-Ok.is u.passing))

pub returns-in-Err : goal.returns-in-Err
returns-in-Err c =
    λ P f u.
    graph_turned P c.args.p.now c.args.graph.now _ c.rule_graph.result (c.rule_graph.ensures P u.prepared) f
    c.in-Err.is (ruled_refused c.refuse.ensures)
