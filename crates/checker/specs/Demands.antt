-- The demands as theorems over the outcomes, each under its sentence; no parameter is left.
use Rattle.std.specs.Prelude.{ℕ, ◌≤◌, ◌<◌, List, [], Bool, true, false, ◌↔◌, ◌≡◌, refl, length, replicate}
use Rattle.std.proofs.Common.{true≢false, ap, sym, ◌∙◌, subst}
use Rattle.lists.specs.All.{All}
use Rattle.lists.specs.Lists.{◌∈◌}
use Rattle.lists.specs.Lists.Laws.{mem_nth}
use Rattle.lists.specs.All.Laws.{all_nth}
use Rattle.octets.specs.Head.{Bytes}
use Rattle.message.specs.Promise.{Message, SameMessage}
use Rattle.message.proofs.Promise.{messages}
use Rattle.rewriting.specs.Table.{Ruling, passed, refused, Ruled}
use Rattle.rewriting.specs.Table.Laws.{passed_absent, passed_good}
use Rattle.number.specs.Reading.{got}
use Rattle.protocol.specs.Protocol.{Fact, Protocol}
use Rattle.protocol.specs.Protocol as readings
use Rattle.rules.specs.Fit.Meaning.{Fit}
use Rattle.protocol.specs.Protocol.Limits.{Within}
use Rattle.steps.specs.Nodes.{Node, NodeWithin}
use Rattle.steps.specs.Values.{NodeRight}
use Rattle.steps.specs.Facts.{facts_of, same_fact, SameFact}
use Rattle.steps.specs.Facts.Formed.{FactFormed, facts_formed, formed_decides}
use Rattle.steps.specs.Runs.{NamesOnce}
use Rattle.steps.specs.Runs.Equations.{RunSame, accepted_exactly, run_exactly}
use Rattle.steps.specs.Runs.Theorems.{IsRun, accepted_runs, run_names}
use Rattle.graph.specs.Graph.{Graph}
use Rattle.graph.specs.Causes.{DependencyGraph}
use Rattle.property.specs.Formula.{Formula}
use Rattle.lists.specs.Reflects.{Reflects, right, wrong}
use Rattle.property.specs.Truth.{arities, Truth, actions_of_nodes}
use Rattle.property.specs.Fit.{IsFit}
use Rattle.trace.specs.Truth.{truth}
use Rattle.trace.specs.Truth.Laws.{truth_holds}
use Rattle.term.specs.Term.{Term, symbols}
use Rattle.term.specs.Arity.{tag_arities}
use Rattle.term.specs.Sizes.{most_symbols}
use Rattle.checker.specs.Answer.{work_need}
use Rattle.checker.specs.Files.{protocol_limit, term_limit}
use Rattle.checker.specs.Files.Terms.{IsTerm}
use Rattle.checker.specs.Canonical.{need, canonical_outcome, canonical_rows, canonical_output, canonical_work}
use Rattle.checker.specs.Canonical.Cases as forms
use Rattle.checker.specs.Canonical.Inside as inside
use Rattle.checker.specs.Canonical.Meaning.{FormWritten, written_meaning}
use Rattle.checker.specs.Canonical.Laws.{Length, canonical_ruled}
use Rattle.checker.specs.Canonical.Back.{canonical_unique, canonical_back}
use Rattle.checker.specs.Files.Fit.{FitFile, fit_within, is_fit_file}
use Rattle.checker.specs.Check.{graph_limit, Checked, checked, check_outcome, check_rows, check_work}
use Rattle.checker.specs.Check.Fit.{FitProperty}
use Rattle.checker.specs.Check.Cases.{sized, work_kept, work_cleared}
use Rattle.checker.specs.Check.Bounds.{OutcomeSmall, check_small}
use Rattle.checker.specs.Draw.{draw_outcome, draw_rows, draw_output, draw_work}
use Rattle.checker.specs.Draw.Cases as drawing
use Rattle.checker.specs.Draw.Cases.{output_kept}
use Rattle.checker.specs.Draw.Cleared as cleared
use Rattle.checker.specs.Draw.Laws.{DrawnLength, draw_ruled, draw_unique, passed_draws}
use Rattle.checker.specs.Draw.Bounds.{DrawSmall, draw_small}
use Rattle.checker.specs.Draw.Written.{GraphWritten, graph_written}
use Rattle.checker.specs.Check.Laws.{at_most, Holds, Answers, files_fit, holds_passed, passed_graph, check_ruled, check_unique, passed_answers}
-- demand 3 whole, one statement
pub mod Third
-- document 02, Change 2: the earliest source
pub mod Earliest
-- document 02, Change 3: old files
pub mod Older
-- document 02, Change 4: files without the six functions
pub mod Signatures

-- the trace of right nodes makes the property true, over all messages and all times
abbrev pub NodesHold : (p : Protocol) → Within p → Formula → (xs : List Node) → All (NodeWithin p) xs → All (NodeRight p) xs → Type 0
NodesHold p fit f xs within values = Truth p.functions (actions_of_nodes p fit xs within values) f

-- that of a dependency graph
abbrev pub TraceHolds : (p : Protocol) → Within p → Formula → {file : List ℕ} {g : Graph} → DependencyGraph p file g → Type 0
TraceHolds p fit f {file} {g} d = NodesHold p fit f g.nodes d.within.0.each d.right

-- "a run of the multiset rewriting from the empty state, no fresh name made twice"
pub record SuchRun (p : Protocol) (xs : List Node) : Type 0 where
  pub run : RunSame p xs
  pub names_once : NamesOnce p xs

-- it is what the machine runs through
pub such_run_exactly : (p : Protocol) → Within p → (xs : List Node) → All (NodeWithin p) xs → IsRun p xs ↔ SuchRun p xs
such_run_exactly p fit xs within = (
  (λ r. record { run = (run_exactly p fit xs within).0 r; names_once = run_names p xs r }),
  (λ s. (run_exactly p fit xs within).1 s.run),
)

-- an answer that decides a statement is false just where the statement fails
fails_exactly : {P : Type 0} {b : Bool} → Reflects P b → (b ≡ false) ↔ ¬ P
fails_exactly (right p) = ((λ e. absurd (true≢false e)), (λ n. absurd (n p)))
fails_exactly (wrong n) = ((λ e. n), (λ m. refl))

-- the nodes are ruled an attack just where their trace makes the property false
pub nodes_attack :
    (p : Protocol) (fit : Within p) (f : Formula) → IsFit [] f → (xs : List Node) (within : All (NodeWithin p) xs) (values : All (NodeRight p) xs)
    → (truth p xs f ≡ false) ↔ ¬ NodesHold p fit f xs within values
nodes_attack p fit f fits xs within values = fails_exactly (truth_holds p fit xs within values f fits)

-- ── 2: "Two messages count as equal exactly when the paper's ten equations make them equal", from Change 4 on all twelve ──
-- the test of two messages, and that of two facts of nodes
pub messages_equal : (free : List ℕ) (m n : Message (arities free)) → ((messages free).same m n ≡ true) ↔ SameMessage (arities free) m n
messages_equal free m n = (messages free).decides m n

pub facts_equal :
    (p : Protocol) → Within p → (x y : Node) → NodeWithin p x → NodeWithin p y → (i j : ℕ) (f g : Fact) → f ∈ facts_of p i x → g ∈ facts_of p j y
    → (same_fact f g ≡ true) ↔ SameFact (arities p.functions) f g
facts_equal p fit x y a b i j f g m n = formed_decides p fit f g (formed x a i f m) (formed y b j g n)
  where
    formed : (z : Node) → NodeWithin p z → (list : ℕ) (h : Fact) → h ∈ facts_of p list z → FactFormed p h
    formed z c list h o =
        let (k, e) = mem_nth (facts_of p list z) h o in
        all_nth (FactFormed p) (facts_of p list z) (facts_formed p fit z c list) k h e

-- ── document 02, Change 1: "rulings are given only on protocols that meet all five" ──
-- the file holds a protocol of whose rules P1 to P5 hold
pub record MeetsAll (protocol : List ℕ) : Type 0 where
  pub is : Protocol
  pub short : length protocol ≤ protocol_limit
  pub reads : readings.protocol protocol ≡ got is (length protocol)
  pub all_five : All Fit is.rules

meets : (protocol : List ℕ) (p : Protocol) → FitFile protocol p → MeetsAll protocol
meets protocol p fit = record { is = p; short = fit.short; reads = fit.reads; all_five = fit.each }

-- ── 1, for canonical form: a length or one refusal, which the table alone fixes; and files that hold a fit protocol and a term of it, with
-- room and work enough, give the length of the canonical form ──
module _ (protocol term : List ℕ) (bytes : Bytes protocol) (term_bytes : Bytes term) where
  pub form_any_bytes :
      (output work : ℕ) → Ruled (canonical_rows protocol term output work) (Length protocol term) (canonical_outcome protocol term output work)
  form_any_bytes = canonical_ruled protocol term bytes

  pub form_one_outcome :
      (output work : ℕ) (r : Ruling ℕ) → Ruled (canonical_rows protocol term output work) (Length protocol term) r
      → r ≡ canonical_outcome protocol term output work
  form_one_outcome = canonical_unique protocol term bytes

  pub form_written :
      (p : Protocol) → FitFile protocol p → (t : Term) → IsTerm (tag_arities p.functions) term t
      → symbols t ≤ most_symbols → length term ≤ term_limit → (output work : ℕ) → work_need ≤ work → need t ≤ output
      → canonical_outcome protocol term output work ≡ passed (need t)
  form_written = canonical_back protocol term bytes term_bytes

  pub form_meets_all : (output work n : ℕ) → canonical_outcome protocol term output work ≡ passed n → MeetsAll protocol
  form_meets_all output work n e =
      let rows = canonical_rows protocol term output work in
      let ruled = canonical_ruled protocol term bytes output work in
      let a = passed_absent (Length protocol term) rows (canonical_outcome protocol term output work) n ruled e in
      let l = passed_good (Length protocol term) rows n (subst (Ruled rows (Length protocol term)) e ruled) in
      meets protocol l.holds.is
      (is_fit_file protocol bytes l.holds.is (at_most protocol_limit (length protocol) (λ m. a.1.0 1 (refl, m))) l.holds.fit)

  -- a refusal leaves the output; else the canonical term of that length starts it, and "Output past what was written never changes"
  pub form_output_left :
      (output : List ℕ) (work : ℕ)
      → ((n k : ℕ) → canonical_outcome protocol term (length output) work ≡ refused n k → canonical_output protocol term output work ≡ output)
      × ((n : ℕ) → canonical_outcome protocol term (length output) work ≡ passed n → FormWritten protocol term output work n)
  form_output_left output work = (
    (λ n k e. sym (forms.output_kept protocol term output work n k e)),
    written_meaning protocol term output work bytes term_bytes,
  )

  pub form_work_left :
      (output : ℕ) (work : List ℕ)
      → (length work < work_need → canonical_work protocol term output work ≡ work)
      × (work_need ≤ length work → canonical_work protocol term output work ≡ replicate (length work) 0)
  form_work_left output work = (
    (λ l. sym (forms.work_kept protocol term work output l)),
    (λ l. sym (inside.work_cleared protocol term output work l)),
  )

-- ── 1, for drawing: a length or one refusal, which the table alone fixes, and the lent memory as the table says ──
module _ (protocol steps : List ℕ) (bytes : Bytes protocol) (steps_bytes : Bytes steps) where
  pub draw_any_bytes :
      (output work : ℕ) → Ruled (draw_rows protocol steps output work) (DrawnLength protocol steps) (draw_outcome protocol steps output work)
  draw_any_bytes = draw_ruled protocol steps bytes steps_bytes

  pub draw_one_outcome :
      (output work : ℕ) (r : Ruling ℕ) → Ruled (draw_rows protocol steps output work) (DrawnLength protocol steps) r
      → r ≡ draw_outcome protocol steps output work
  draw_one_outcome = draw_unique protocol steps bytes steps_bytes

  pub draw_meets_all : (output work n : ℕ) → draw_outcome protocol steps output work ≡ passed n → MeetsAll protocol
  draw_meets_all output work n e =
      let d = passed_draws protocol steps bytes steps_bytes output work n e in
      meets protocol d.is_protocol d.files.fit

  -- its figures are small: numbers to 15, items and lengths to 61,440
  pub draw_small_outcome : (output work : ℕ) → DrawSmall (draw_outcome protocol steps output work)
  draw_small_outcome = draw_small protocol steps bytes steps_bytes

  -- a refusal leaves the output; else the graph of that length starts it, and "Output past what was written never changes"
  pub draw_output_left :
      (output : List ℕ) (work : ℕ)
      → ((n k : ℕ) → draw_outcome protocol steps (length output) work ≡ refused n k → draw_output protocol steps output work ≡ output)
      × ((n : ℕ) → draw_outcome protocol steps (length output) work ≡ passed n → GraphWritten protocol steps output work n)
  draw_output_left output work = (
    (λ n k e. sym (output_kept protocol steps output work n k e)),
    graph_written protocol steps bytes steps_bytes output work,
  )

  pub draw_work_left :
      (output : ℕ) (work : List ℕ)
      → (length work < work_need → draw_work protocol steps output work ≡ work)
      × (work_need ≤ length work → draw_work protocol steps output work ≡ replicate (length work) 0)
  draw_work_left output work = (
    (λ l. sym (drawing.work_kept protocol steps work output l)),
    (λ l. sym (cleared.work_cleared protocol steps output work l)),
  )

module _ (protocol property graph : List ℕ) (bytes : Bytes protocol) (property_bytes : Bytes property) (graph_bytes : Bytes graph) where
  -- ── 1: "A caller may hand over protocol, property and graph as any byte strings and receives a ruling or one refusal from document 01's
  -- table, with all lent memory left as that table says." ──
  pub any_bytes :
      (work : ℕ) → Ruled (check_rows protocol property graph work) (Answers protocol property graph) (check_outcome protocol property graph work)
  any_bytes = check_ruled protocol property graph bytes property_bytes graph_bytes

  pub one_outcome :
      (work : ℕ) (r : Ruling Checked) → Ruled (check_rows protocol property graph work) (Answers protocol property graph) r
      → r ≡ check_outcome protocol property graph work
  one_outcome = check_unique protocol property graph bytes property_bytes graph_bytes

  pub meets_all : (work : ℕ) (c : Checked) → check_outcome protocol property graph work ≡ passed c → MeetsAll protocol
  meets_all work c e =
      let a = passed_answers protocol property graph bytes property_bytes graph_bytes work c e in
      meets protocol a.is_protocol a.files.fit

  -- its figures are small: numbers to 13, items to 4,096, 512 nodes, 4,096 edges
  pub small_outcome : (work : ℕ) → OutcomeSmall (check_outcome protocol property graph work)
  small_outcome = check_small protocol property graph bytes property_bytes graph_bytes

  -- "Left as it was: all" for refusal 1; "After every call but refusal 1 it is all zeros."
  pub work_left :
      (work : List ℕ)
      → (length work < work_need → check_work protocol property graph work ≡ work)
      × (work_need ≤ length work → check_work protocol property graph work ≡ replicate (length work) 0)
  work_left work = (
    (λ l. sym (work_kept protocol property graph work l)),
    (λ l. sym (work_cleared protocol property graph work l)),
  )

  -- ── 2: "With protocol and property fit and the work area long enough, a graph is accepted exactly when it is a dependency graph of its
  -- protocol in document 01's forms and sizes, and the property is judged over all messages and all times." ──
  module _ (p : Protocol) (fit : FitFile protocol p) (f : Formula) (fit_property : FitProperty p property f) where
    pub record IsGraph (g : Graph) : Type 0 where
      pub short : length graph ≤ graph_limit
      pub is : DependencyGraph p graph g

    pub graph_exactly :
        (work : ℕ) → work_need ≤ work → (c : Checked)
        → (check_outcome protocol property graph work ≡ passed c) ↔ ((g : Graph) × IsGraph g × (c ≡ checked p f g))
    graph_exactly work long c = (there, back)
      where
        whole : (g : Graph) → IsGraph g → Holds protocol property graph p f g
        whole g h = record { fit = fit; fit_property = fit_property; short = h.short; is_graph = h.is }

        back : (g : Graph) × IsGraph g × (c ≡ checked p f g) → check_outcome protocol property graph work ≡ passed c
        back (g, h, e) =
            sized protocol property graph work long fit.short fit_property.short h.short
            ∙ holds_passed protocol property graph bytes property_bytes graph_bytes p f g (whole g h)
            ∙ ap (λ (x : Checked). passed x) (sym e)

        there : check_outcome protocol property graph work ≡ passed c → (g : Graph) × IsGraph g × (c ≡ checked p f g)
        there e =
            let a = passed_answers protocol property graph bytes property_bytes graph_bytes work c e in
            let s = sized protocol property graph work long fit.short fit_property.short a.files.short in
            let under = files_fit protocol property graph bytes property_bytes graph_bytes p f fit fit_property in
            let (g, d, i) = passed_graph protocol property graph bytes property_bytes graph_bytes p f c fit (sym under ∙ sym s ∙ e) in
            (g, record { short = a.files.short; is = d }, i)

    -- and the property is judged
    pub attack_exactly :
        {g : Graph} (d : DependencyGraph p graph g) → ((checked p f g).holds ≡ false) ↔ ¬ TraceHolds p (fit_within protocol bytes p fit) f d
    attack_exactly {g} d =
        nodes_attack p (fit_within protocol bytes p fit) f fit_property.fits g.nodes d.within.0.each d.right

  -- ── 3, its first sentence; the whole is in Demands/Third.antt: "For every protocol, property and graph, if the graph is accepted, then its nodes in
  -- file order are a run of the multiset rewriting from the empty state, no fresh name made twice, and it is ruled an attack exactly when the trace
  -- makes the property false." ──
  pub record IsRuled (c : Checked) : Type 0 where
    pub its : Answers protocol property graph c
    pub run : SuchRun its.is_protocol its.is_graph.nodes
    pub attack :
        (c.holds ≡ false)
        ↔ ¬ TraceHolds its.is_protocol (fit_within protocol bytes its.is_protocol its.files.fit) its.is_property its.files.is_graph

  pub accepted_run : (work : ℕ) (c : Checked) → check_outcome protocol property graph work ≡ passed c → IsRuled c
  accepted_run work c e =
      let a = passed_answers protocol property graph bytes property_bytes graph_bytes work c e in
      let p = a.is_protocol in
      let g = a.is_graph in
      let h = a.files in
      let d = h.is_graph in
      let fit = fit_within protocol bytes p h.fit in
      let acc = (accepted_exactly p fit g.nodes d.within.0.each g.edges).1 d.accepted in
      record {
        its = a;
        run = (such_run_exactly p fit g.nodes d.within.0.each).0 (accepted_runs p g.nodes g.edges acc);
        attack = subst (λ (b : Checked). (b.holds ≡ false) ↔ ¬ TraceHolds p fit a.is_property d) (sym a.answer)
            (attack_exactly p h.fit a.is_property h.fit_property d);
      }
