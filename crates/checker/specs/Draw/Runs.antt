-- Well-formed steps under a fit protocol: the graph is drawn, or the list refused, as the edges of its nodes are.
use Rattle.std.specs.Prelude.{ℕ, ◌≤◌, List, ◌≡◌}
use Rattle.std.proofs.Common.{ap, ◌∙◌}
use Rattle.lists.specs.Choice.{by_size}
use Rattle.octets.specs.Head.{Bytes}
use Rattle.rewriting.specs.Table.{passed, refused}
use Rattle.rewriting.specs.Graph.{Edge}
use Rattle.protocol.specs.Protocol.{Protocol}
use Rattle.steps.specs.Nodes.{NodesWithin}
use Rattle.steps.specs.Nodes.Exact.{steps_form}
use Rattle.steps.specs.Runs.Theorems.{drawn}
use Rattle.steps.specs.WellFormed.{WellFormed}
use Rattle.graph.specs.Graph.{graph_of_lem}
use Rattle.checker.specs.Answer.{work_need}
use Rattle.checker.specs.Files.Fit.{FitFile, fit_passed}
use Rattle.checker.specs.Draw.{graph_of, graph_drawn, draw_outcome}
use Rattle.checker.specs.Draw.Cases.{drawn_under, work_short, no_graph}
use Rattle.checker.specs.Draw.Steps.{with_edges, well_under}
use Rattle.checker.specs.Draw.Laws.{Draws, nodes_draws}

module _ (protocol steps : List ℕ) (bytes : Bytes protocol) (steps_bytes : Bytes steps) (p : Protocol) (fit : FitFile protocol p) (well : WellFormed p steps)
  where
    pub well_within : NodesWithin p well.nodes
    well_within = (steps_form p steps steps_bytes well.nodes well.end well.reads).0

    well_drawn : graph_drawn protocol steps ≡ graph_of p well.nodes
    well_drawn = drawn_under protocol steps p (fit_passed protocol bytes p fit) ∙ well_under p steps steps_bytes well

    module _ (es : List Edge) (e : drawn p well.nodes ≡ passed es) where
      pub drawn_graph : graph_drawn protocol steps ≡ passed (graph_of_lem well.nodes es)
      drawn_graph = well_drawn ∙ ap (with_edges p well.nodes) e

      pub drawn_draws : Draws protocol steps p (graph_of_lem well.nodes es)
      drawn_draws =
          nodes_draws protocol steps bytes steps_bytes p fit well.short well.nodes well.end well.reads well.right es e

    module _ (n k : ℕ) (e : drawn p well.nodes ≡ refused n k) (output work : ℕ) where
      pub list_refused : work_need ≤ work → draw_outcome protocol steps output work ≡ refused n k
      list_refused long =
          no_graph protocol steps output work long fit.short well.short n k (well_drawn ∙ ap (with_edges p well.nodes) e)

      -- whatever the work area
      pub always_refused : (m : ℕ) × (j : ℕ) × (draw_outcome protocol steps output work ≡ refused m j)
      always_refused =
          by_size work work_need
          (λ l. (1, 0, work_short protocol steps output work l))
          (λ l. (n, k, list_refused l))
