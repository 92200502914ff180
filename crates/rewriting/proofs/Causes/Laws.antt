-- The rows by a statement that the test decides say what those by the test say, and 14 what the machine says.
use Rattle.std.specs.Prelude.{◌≡◌, refl, ◌↔◌, Bool, true, List, ℕ, zero, suc}
use Rattle.lists.specs.Tests.{by_bool, true_false}
use Rattle.lists.specs.Lists.{before}
use Rattle.lists.specs.All.{All}
use Rattle.lists.specs.All.Laws.{all_nth, all_take}
use Rattle.rewriting.specs.Facts.{Facts, Tested}
use Rattle.rewriting.specs.Graph.{Node, Edge}
use Rattle.rewriting.specs.Graph.Laws.{Implies}
use Rattle.rewriting.specs.Machine.{start, lacks}
use Rattle.rewriting.specs.Rewriting.{empty}
use Rattle.rewriting.proofs.Rewriting.Laws.{GoodNode, start_like, takes_lacks, lacks_takes, machine_reaches, reaches_machine}
use Rattle.rewriting.specs.Table.{row}
use Rattle.rewriting.specs.Table.Laws.{RestateAll, as_it_stands}
use Rattle.rewriting.specs.Causes.{NameTwice, EndMissing, FactsDiffer, NotOneEdge, UsedTwice, graph_rows, PremisesMissing, draw_rows}
use Rattle.rewriting.proofs.Whole.{Lacking, machine_rows}

-- two facts that differ do so by every statement that makes them the same
differ_as :
    {Fact : Type 0} {Same Other : Fact → Fact → Type 0} {linear : Fact → Bool} {nodes : List (Node Fact)} {edges : List Edge} {k : ℕ}
    → (h : FactsDiffer Same linear nodes edges k) → (Other h.from h.to → Same h.from h.to) → FactsDiffer Other linear nodes edges k
differ_as h f = record {
  edge = h.edge;
  stands = h.stands;
  from = h.from;
  to = h.to;
  has_source = h.has_source;
  has_target = h.has_target;
  differ = λ s. h.differ (f s);
}

-- ── a graph: the test decides between the conclusions and the premises of the nodes ──
module _
    (F : Facts)
    (Same : F.Fact → F.Fact → Type 0)
    (nodes : List (Node F.Fact))
    (there : Implies nodes (Tested F) Same)
    (back : Implies nodes Same (Tested F))
    (edges : List Edge) where
  differ_exactly : (k : ℕ) → FactsDiffer (Tested F) F.linear nodes edges k ↔ FactsDiffer Same F.linear nodes edges k
  differ_exactly k = (
    (λ h. differ_as h (back h.edge.source h.edge.target h.from h.to h.has_source h.has_target)),
    (λ h. differ_as h (there h.edge.source h.edge.target h.from h.to h.has_source h.has_target)),
  )

  pub graph_rows_lem : RestateAll (graph_rows (Tested F) F.linear nodes edges) (graph_rows Same F.linear nodes edges)
  graph_rows_lem = (
    as_it_stands (row 9 (NameTwice nodes)),
    (
      as_it_stands (row 10 (EndMissing nodes edges)),
      ((refl, differ_exactly), (as_it_stands (row 12 (NotOneEdge nodes edges)), (as_it_stands (row 13 (UsedTwice nodes edges F.linear)), tt))),
    ),
  )

-- ── a drawing: the test decides between good facts ──
module _
    (F : Facts)
    (Same : F.Fact → F.Fact → Type 0)
    (Good : F.Fact → Type 0)
    (decides : (f g : F.Fact) → Good f → Good g → (F.same f g ≡ true) ↔ Same f g)
    (nodes : List (Node F.Fact))
    (good : All (GoodNode Good) nodes) where
  good_before : (k : ℕ) → All (GoodNode Good) (before k nodes)
  good_before zero = tt
  good_before (suc k) = all_take (GoodNode Good) k nodes good

  missing_exactly : (k : ℕ) → Lacking F nodes k ↔ PremisesMissing Same F.linear nodes k
  missing_exactly k = (
    (λ h.
        let (t, g, i) = machine_reaches F Same Good decides 1 start empty (before k nodes) h.state (start_like F Same Good decides) (good_before k)
        h.reached in
        let a = all_nth (GoodNode Good) nodes good k h.node h.stands in
        record {
          node = h.node;
          state = t;
          stands = h.stands;
          reached = g;
          missing = λ rest w.
              true_false (lacks F h.state h.node.premises) h.missing
              (takes_lacks F Same Good decides i h.node.premises rest a.premises w);
        }),
    (λ h.
        let (e, r, i) = reaches_machine F Same Good decides 1 start empty (before k nodes) h.state (start_like F Same Good decides) (good_before k)
        h.reached in
        let a = all_nth (GoodNode Good) nodes good k h.node h.stands in
        record {
          node = h.node;
          state = e;
          stands = h.stands;
          reached = r;
          missing =
              by_bool (lacks F e h.node.premises)
              (λ t. t)
              (λ n. let (rest, w) = lacks_takes F Same Good decides i h.node.premises a.premises n in absurd (h.missing rest w));
        }),
  )

  pub draw_rows_lem : RestateAll (machine_rows F nodes) (draw_rows Same F.linear nodes)
  draw_rows_lem = (as_it_stands (row 9 (NameTwice nodes)), ((refl, missing_exactly), tt))
