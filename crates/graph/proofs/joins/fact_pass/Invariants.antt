-- The invariant is that searching on from edge j finds what searching all finds; the first edge that differs ends it.
use lib.ListN.{length}
use mathlib.Core.Path.{◌≡◌}
use Rattle.lists.specs.Asks.{Promises₂}
use Rattle.graph.specs.Graph.{Graph}
use Rattle.graph.specs.Table.{no_edge}
use Rattle.graph.specs.Joins.{EndedIn}
use Rattle.protocol.specs.Protocol.{Protocol}
use Rattle.rewriting.specs.Checker.{facts_ok}
use Rattle.steps.specs.Runs.{protocol_facts, rewrittens}
use Rattle.steps.specs.Values.Scan.{Rest}
use Rattle.graph.proofs.joins.fact_pass.Given as goal

abbrev pub invariant-loop-j : goal.invariant-loop-j
invariant-loop-j l =
    (length l.out ≡ length l.initial.out) × Promises₂ (EndedIn l.p l.s l.nodes l.n l.edges l.m)
    (λ (P : Protocol) (g : Graph). Rest (λ k. facts_ok (protocol_facts P) (rewrittens P g.nodes)) no_edge g.edges l.j)
