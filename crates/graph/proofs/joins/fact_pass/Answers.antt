-- The invariant is that searching on from edge j finds what searching all finds; the first edge that differs ends it.
use borrow.Author.Rules.{rules}
use Rattle.facts.specs.Owed.{room_kept}
use Rattle.graph.specs.Table.{no_edge}
use Rattle.graph.specs.Joins.{edge_in}
use native.Mathlib.Omega.{arith}
use Rattle.rewriting.specs.Checker.{facts_ok}
use Rattle.steps.specs.Runs.{protocol_facts, rewrittens}
use Rattle.steps.specs.Values.Scan.{rest_all}
use Rattle.graph.specs.Scan.{edges_listed, scan_more, scan_bad, scan_none}
use Rattle.graph.proofs.joins.fact_pass.Goals as goal

pub loop-j-init : goal.loop-j-init
loop-j-init c =
    (search rules, λ P g h. rest_all (λ k. facts_ok (protocol_facts P) (rewrittens P g.nodes)) no_edge g.edges)

pub facts_ok-requires : goal.facts_ok-requires
facts_ok-requires c =
    let (P, g, h) = c.requires.0 in
    ((P, g.nodes, edge_in h c.loop-j.j c.loop-j-test.true), room_kept _ _ _ c.loop-j.invariant.0 c.requires.1)

pub loop-j-preserved : goal.loop-j-preserved
loop-j-preserved c = (
  omega (arith, c.facts_ok.auto, c.loop-j.invariant.0),
  λ P g h. scan_more (edges_listed h.graph_in.edges_in)
      (λ k. facts_ok (protocol_facts P) (rewrittens P g.nodes)) c.loop-j.j c.loop-j-test.true
      (c.facts_ok.ensures P g.nodes (edge_in h c.loop-j.j c.loop-j-test.true)) c.if-not-facts_ok.false (c.loop-j.invariant.1 P g h),
)

pub returns-then-not-facts_ok : goal.returns-then-not-facts_ok
returns-then-not-facts_ok c =
    λ P g h. scan_bad (edges_listed h.graph_in.edges_in) (λ k. facts_ok (protocol_facts P) (rewrittens P g.nodes)) c.loop-j.j c.loop-j-test.true
    (c.facts_ok.ensures P g.nodes (edge_in h c.loop-j.j c.loop-j-test.true)) c.if-not-facts_ok.true (c.loop-j.invariant.1 P g h)

pub returns : goal.returns
returns c =
    λ P g h. scan_none (edges_listed h.graph_in.edges_in) (λ k. facts_ok (protocol_facts P) (rewrittens P g.nodes)) c.loop-j.j (omega arith)
    (c.loop-j.invariant.1 P g h)
