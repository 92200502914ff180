-- The ruling of a graph file is what the rows say, and it passes just the dependency graphs of the protocol.
use Rattle.std.specs.Prelude.{ℕ, List, ◌↔◌, ◌≡◌, refl}
use Rattle.std.proofs.Math.Path.{ap, subst}
use Rattle.std.proofs.Common.{sym, ◌∙◌}
use Rattle.octets.specs.Head.{Bytes}
use Rattle.lists.specs.All.{All}
use Rattle.rewriting.specs.Table.{Ruling, passed, Ruled, and_then}
use Rattle.rewriting.specs.Table.Laws.{ruled_and_then, ruled_good, passed_good, absent_passed}
use Rattle.protocol.specs.Protocol.{Protocol}
use Rattle.protocol.specs.Protocol.Limits.{Within}
use Rattle.steps.specs.Nodes.{read}
use Rattle.steps.specs.Values.{NodeRight}
use Rattle.steps.specs.Values.Passes.{absent_right}
use Rattle.steps.specs.Runs.Equations.{AcceptedSame, graph_rows_same, absent_same, check_table_same}
use Rattle.steps.specs.Causes.{graph_item, read_rows, read_ruling}
use Rattle.steps.specs.Causes.Laws.{read_ruled, values_ruled}
use Rattle.graph.specs.Graph.{Graph, GraphWithin, graph}
use Rattle.graph.proofs.Graph.Exact.{graph_form, graph_back}
use Rattle.graph.specs.Causes.{graph_rows, ruling, graph_file_rows, graph_ruling, DependencyGraph}

module _ (p : Protocol) (fit : Within p) where
  -- ── 7 to 13 of a graph within the limits ──
  -- that which passes is right and accepted
  pub record Passing (g h : Graph) : Type 0 where
    pub is : h ≡ g
    pub right : All (NodeRight p) g.nodes
    pub accepted : AcceptedSame p g.nodes g.edges

  pub passes_ruled : (g : Graph) → GraphWithin p g → Ruled (graph_rows p g) (Passing g) (ruling p g)
  passes_ruled g within =
      values_ruled p (Passing g) g.nodes within.0.each (graph_rows_same p g.nodes g.edges) _
      (λ right. check_table_same p fit g.nodes within.0.each g.edges g (Passing g) (λ acc. record { is = refl; right = right; accepted = acc }))

  module _ (file : List ℕ) (bytes : Bytes file) where
    -- ── the whole file: "3 and 6, then 7 to 13" ──
    pub graph_ruled : Ruled (graph_file_rows p file) (DependencyGraph p file) (graph_ruling p file)
    unfolding graph_ruling
    graph_ruled =
        ruled_and_then (λ g. (e : ℕ) × (graph file p ≡ read g e)) (DependencyGraph p file) (read_rows graph_item (graph file p))
        (read_ruling graph_item (graph file p)) (graph_rows p) (ruling p) (read_ruled graph_item (graph file p)) (λ g (e, h) q.
        let f = graph_form file bytes p g e h in
        ruled_good (Passing g) (DependencyGraph p file) (λ k w. subst (DependencyGraph p file) (sym w.is) record {
          within = f.0;
          bytes = f.1;
          right = w.right;
          accepted = w.accepted;
        }) (graph_rows p g) (ruling p g) (passes_ruled g f.0))

    -- "a graph is accepted exactly when it is a dependency graph of its protocol in document 01's forms and sizes"
    pub graph_accepted : (g : Graph) → (graph_ruling p file ≡ passed g) ↔ DependencyGraph p file g
    unfolding graph_ruling
    graph_accepted g = (
      λ h. passed_good (DependencyGraph p file) (graph_file_rows p file) g
          (subst (Ruled (graph_file_rows p file) (DependencyGraph p file)) h graph_ruled),
      accepts,
    )
      where
        accepts : DependencyGraph p file g → graph_ruling p file ≡ passed g
        accepts d =
            let absent = (absent_right p g.nodes d.within.0.each).1 d.right in
            let (k, w, e) = absent_passed (Passing g) (graph_rows p g) (ruling p g) (passes_ruled g d.within)
            (absent.0, (absent.1.0, (absent_same p fit g.nodes d.within.0.each g.edges).1 d.accepted)) in
            ap (λ r. and_then (read_ruling graph_item r) (ruling p)) (graph_back file bytes p g d.within d.bytes)
            ∙ e ∙ ap {B = Ruling Graph} passed w.is
