-- Document 02, Change 2, at the files: "The writer's edges, and the length or need that follows, are from now on a defined outcome too."
use Rattle.std.specs.Prelude.{ℕ, ◌≤◌, ◌<◌, List, ◌↔◌, ◌≡◌, refl, length, take}
use Rattle.std.proofs.Common.{ap, sym, ◌∙◌, arith}
use Rattle.lists.specs.Choice.{by_size}
use Rattle.octets.specs.Head.{Bytes}
use Rattle.octets.specs.Splice.{splice}
use Rattle.rewriting.specs.Table.{Ruling, passed, refused}
use Rattle.rewriting.specs.Table.Laws.{refused_passed, refused_number, refused_item}
use Rattle.rewriting.specs.Graph.{Edge}
use Rattle.protocol.specs.Protocol.{Protocol}
use Rattle.steps.specs.Nodes.{read, node_list}
use Rattle.steps.specs.Runs.{NamesOnce}
use Rattle.steps.specs.Runs.Equations.{EarliestSame, run_earliest_same}
use Rattle.steps.specs.Causes.{steps_item}
use Rattle.steps.specs.WellFormed.{steps_limit, WellFormed}
use Rattle.graph.specs.Graph.{Graph, encode_graph}
use Rattle.property.specs.Formula.{Formula}
use Rattle.checker.specs.Answer.{work_need}
use Rattle.checker.specs.Files.{protocol_limit, protocol_item}
use Rattle.checker.specs.Files.Fit.{FitFile, fit_within}
use Rattle.checker.specs.Check.{Checked, check_outcome}
use Rattle.checker.specs.Check.Fit.{FitProperty}
use Rattle.checker.specs.Draw.{graph_drawn, need_of, draw_outcome, draw_output}
use Rattle.checker.specs.Draw.Cases.{protocol_over, steps_over, no_graph, no_room, room}
use Rattle.checker.specs.Draw.Laws.{DrawnLength, Draws, draws_one, draws_passed, graph_draws, passed_draws}
use Rattle.checker.specs.Draw.Bounds.{files_bounded}
use Rattle.checker.specs.Draw.Written.{written_front, GraphWritten, graph_written}
use Rattle.checker.specs.Draw.Runs.{well_within}
use Rattle.checker.specs.Demands.{SuchRun}
use Rattle.checker.specs.Demands.Third.{IsDrawn, graph_run, whole_list}

module _ (protocol steps : List ℕ) (bytes : Bytes protocol) (steps_bytes : Bytes steps) where
  -- the files have at most one graph whose edges come from the earliest sources
  pub one_graph : (p q : Protocol) (g h : Graph) → Draws protocol steps p g → Draws protocol steps q h → g ≡ h
  one_graph = draws_one protocol steps bytes steps_bytes

  module _ (output work n : ℕ) (long : work_need ≤ work) where
    abbrev Outcome : Ruling ℕ
    Outcome = draw_outcome protocol steps output work

    -- what that graph makes of the outcome
    drawn_length : (d : DrawnLength protocol steps n) → n ≤ output → Outcome ≡ passed n
    drawn_length d l =
        let g = d.is_graph in
        let is = draws_passed protocol steps bytes steps_bytes d.is_protocol g d.files in
        room protocol steps output work long d.files.fit.short d.files.short g is (omega (arith, d.needs, l))
        ∙ ap (λ (m : ℕ). passed m) (sym d.needs)

    drawn_need : (d : DrawnLength protocol steps n) → output < n → Outcome ≡ refused 15 n
    drawn_need d l =
        let g = d.is_graph in
        let is = draws_passed protocol steps bytes steps_bytes d.is_protocol g d.files in
        no_room protocol steps output work long d.files.fit.short d.files.short g is (omega (arith, d.needs, l))
        ∙ ap (λ (m : ℕ). refused 15 m) (sym d.needs)

    -- "the length .. that follows": n is written just where n is the length of that graph, and there is room for it
    pub length_exactly : (Outcome ≡ passed n) ↔ (DrawnLength protocol steps n × (n ≤ output))
    length_exactly = (
      (λ e.
          let d = passed_draws protocol steps bytes steps_bytes output work n e in
          (d, by_size output n (λ l. absurd (refused_passed 15 n n (sym (drawn_need d l) ∙ e))) (λ l. l))),
      (λ (d, l). drawn_length d l),
    )

    -- "or need": n is asked for just where n is the length of that graph, and there is no room for it
    module _ (e : Outcome ≡ refused 15 n) where
      other : {C : Type 0} (m k : ℕ) → m ≤ 14 → Outcome ≡ refused m k → C
      other m k l f = absurd (omega (arith, l, refused_number m k 15 n (sym f ∙ e)))

      of_graph :
          (p : length protocol ≤ protocol_limit) (s : length steps ≤ steps_limit) (r : Ruling Graph) → graph_drawn protocol steps ≡ r
          → DrawnLength protocol steps n × (output < n)
      of_graph p s (refused m k) f =
          other m k (files_bounded protocol steps bytes steps_bytes p s m k f).0 (no_graph protocol steps output work long p s m k f)
      of_graph p s (passed g) f =
          let (q, d) = graph_draws protocol steps bytes steps_bytes p s g f in
          by_size output (need_of g)
          (λ l.
          let i : n ≡ need_of g = refused_item 15 n 15 (need_of g) (sym e ∙ no_room protocol steps output work long p s g f l) in
          (record { is_protocol = q; is_graph = g; files = d; needs = i }, omega (arith, i, l)))
          (λ l. absurd (refused_passed 15 n (need_of g) (sym e ∙ room protocol steps output work long p s g f l)))

      asked : DrawnLength protocol steps n × (output < n)
      asked =
          by_size protocol_limit (length protocol)
          (λ l. other 2 protocol_item (omega arith) (protocol_over protocol steps output work long l))
          (λ p. by_size steps_limit (length steps)
          (λ l. other 2 steps_item (omega arith) (steps_over protocol steps output work long p l))
          (λ s. of_graph p s (graph_drawn protocol steps) refl))

    pub need_exactly : (Outcome ≡ refused 15 n) ↔ (DrawnLength protocol steps n × (output < n))
    need_exactly = (asked, (λ (d, l). drawn_need d l))

  -- "Two people draw the same steps and want the same file": whatever they lend, if it is long enough
  module _ (output output' : List ℕ) (work work' n : ℕ) where
    pub record SameFile : Type 0 where
      pub same_length : draw_outcome protocol steps (length output') work' ≡ passed n
      pub same_bytes : take n (draw_output protocol steps output' work') ≡ take n (draw_output protocol steps output work)

    -- what one of them has
    front : (o : List ℕ) (w : ℕ) → (g : GraphWritten protocol steps o w n) → take n (draw_output protocol steps o w) ≡ encode_graph g.its.is_graph
    front o w g =
        let b : List ℕ = encode_graph g.its.is_graph in
        ap (λ (l : List ℕ). take n l) g.left
        ∙ ap (λ (k : ℕ). take k (splice o 0 b)) g.its.needs
        ∙ written_front o b (omega (arith, g.room, g.its.needs))

    pub two_people :
        draw_outcome protocol steps (length output) work ≡ passed n → work_need ≤ work' → n ≤ length output' → SameFile
    two_people e long l =
        let a = graph_written protocol steps bytes steps_bytes output work n e in
        let f = drawn_length (length output') work' n long a.its l in
        let b = graph_written protocol steps bytes steps_bytes output' work' n f in
        record {
          same_length = f;
          same_bytes =
              front output' work' b
              ∙ ap encode_graph (one_graph b.its.is_protocol a.its.is_protocol b.its.is_graph a.its.is_graph b.its.files a.its.files)
              ∙ sym (front output work a);
        }

-- ── "Steps that could be drawn before can still be drawn." ──
module _
    (protocol property steps : List ℕ) (bytes : Bytes protocol) (property_bytes : Bytes property) (steps_bytes : Bytes steps) (p : Protocol)
    (fit : FitFile protocol p) (f : Formula) (fit_property : FitProperty p property f) (well : WellFormed p steps) where
  -- there are earliest sources just where the steps are such a run
  pub such_run_earliest : SuchRun p well.nodes ↔ (NamesOnce p well.nodes × ((edges : List Edge) × EarliestSame p well.nodes edges))
  such_run_earliest =
      let same = run_earliest_same p (fit_within protocol bytes p fit) well.nodes (well_within protocol steps bytes steps_bytes p fit well).each in (
        (λ s. same.0 s.run),
        (λ g. record { run = same.1 g; names_once = g.0 }),
      )

  -- and where any graph of these steps is accepted, whatever its edges and the property, this writer draws one
  pub still_drawn :
      (property' graph : List ℕ) → Bytes property' → Bytes graph → (e : ℕ) → node_list p graph 0 ≡ read well.nodes e
      → (work : ℕ) (c : Checked) → check_outcome protocol property' graph work ≡ passed c
      → IsDrawn protocol property steps bytes steps_bytes p fit f well
  still_drawn property' graph b d e h work c o =
      (whole_list protocol property steps bytes property_bytes steps_bytes p fit f fit_property well).run_drawn
      (graph_run protocol property steps bytes property_bytes steps_bytes p fit f fit_property well property' graph b d e h work c o)
