-- Demand 3, one statement: every graph that is accepted, and every well-formed step list as a whole, whatever its length and wherever a node fails.
-- Each field stands under the words of the demand that it is.
use Rattle.std.specs.Prelude.{ℕ, ◌+◌, ◌≤◌, ◌<◌, List, ◌++◌, false, ◌↔◌, ◌⊎◌, ◌≡◌, refl, length, take}
use Rattle.std.proofs.Common.{inl, inr, ap, sym, ◌∙◌, subst}
use Rattle.lists.specs.All.{All}
use Rattle.octets.specs.Head.{Bytes}
use Rattle.octets.specs.Splice.{splice}
use Rattle.number.specs.Reading.{got}
use Rattle.number.specs.Layout.{listed}
use Rattle.rewriting.specs.Table.{Ruling, passed, refused, Ruled, Says}
use Rattle.rewriting.specs.Table.Laws.{refused_passed, ruled_says}
use Rattle.rewriting.specs.Graph.{Edge}
use Rattle.protocol.specs.Protocol.{Protocol}
use Rattle.protocol.specs.Protocol.Limits.{Within}
use Rattle.steps.specs.Nodes.{Node, NodeWithin, encode_nodes, read, node_list}
use Rattle.steps.specs.Nodes.Exact.{nodes_back, steps_form}
use Rattle.steps.specs.Runs.Equations.{EarliestSame, draw_rows_same, draw_table_same, earliest_unique_same}
use Rattle.steps.specs.Runs.Theorems.{IsRun, drawn, draws_exactly, refused_no_run}
use Rattle.steps.specs.WellFormed.{WellFormed}
use Rattle.graph.specs.Graph.{Graph, graph_of_lem, encode_edge, encode_graph}
use Rattle.graph.specs.Graph.Limits.{graph_bytes}
use Rattle.property.specs.Formula.{Formula}
use Rattle.checker.specs.Answer.{work_need}
use Rattle.checker.specs.Files.Fit.{FitFile, fit_within}
use Rattle.checker.specs.Check.{Checked, checked, check_outcome}
use Rattle.checker.specs.Check.Fit.{FitProperty}
use Rattle.checker.specs.Draw.{draw_outcome, draw_output}
use Rattle.checker.specs.Draw.Cases.{work_short, no_room, room, output_kept, output_written}
use Rattle.checker.specs.Draw.Cleared as cleared
use Rattle.checker.specs.Draw.Laws.{node_bytes}
use Rattle.checker.specs.Draw.Written.{written_front}
use Rattle.checker.specs.Draw.Runs.{well_within, drawn_graph, drawn_draws, list_refused, always_refused}
use Rattle.checker.specs.Demands.{NodesHold, SuchRun, such_run_exactly, IsRuled, accepted_run, graph_exactly, nodes_attack}

module _
    (protocol property steps : List ℕ) (bytes : Bytes protocol) (steps_bytes : Bytes steps) (p : Protocol) (fit : FitFile protocol p) (f : Formula)
    (well : WellFormed p steps) where
  -- the trace of the steps makes the property true
  abbrev pub StepsHold : Type 0
  StepsHold =
      NodesHold p (fit_within protocol bytes p fit) f well.nodes (well_within protocol steps bytes steps_bytes p fit well).each well.right

  -- what is drawn with a work area that is long enough
  pub record IsDrawn : Type 0 where
    -- one graph, whatever the output
    pub graph : List ℕ
    -- "lent enough output and work area": "Enough output is that length, the need in refusal 15, or more."
    pub enough :
        (output : List ℕ) (work : ℕ) → work_need ≤ work → length graph ≤ length output
        → (draw_outcome protocol steps (length output) work ≡ passed (length graph))
        × (draw_output protocol steps output work ≡ splice output 0 graph)
        × (take (length graph) (draw_output protocol steps output work) ≡ graph)
    pub less :
        (output : List ℕ) (work : ℕ) → work_need ≤ work → length output < length graph
        → (draw_outcome protocol steps (length output) work ≡ refused 15 (length graph)) × (draw_output protocol steps output work ≡ output)
    -- "For each premise, .. the writer takes the lowest node and then the lowest conclusion that is equal and, if linear, still unused": these edges,
    -- and no others
    pub edges : List Edge
    pub earliest : EarliestSame p well.nodes edges
    pub no_others : (es : List Edge) → EarliestSame p well.nodes es → es ≡ edges
    -- "That graph has just these steps in their order": "holds the steps' node bytes unchanged"
    pub is_graph : graph ≡ encode_graph (graph_of_lem well.nodes edges)
    pub these_steps : graph ≡ steps ++ listed encode_edge edges
    -- "and is accepted": "the bytes drawn, up to the returned length, go unchanged to checking with the same protocol and a long enough work area"
    pub accepted : (work : ℕ) → work_need ≤ work → check_outcome protocol property graph work ≡ passed (checked p f (graph_of_lem well.nodes edges))
    -- ", as an attack exactly when the trace makes the property false."
    pub attack : ((checked p f (graph_of_lem well.nodes edges)).holds ≡ false) ↔ ¬ StepsHold

  -- what is refused
  pub record IsRefused : Type 0 where
    -- "the writer refuses it whatever the output's length", with 1 where the work area is short, and writes nothing
    pub number : ℕ
    pub item : ℕ
    pub refused_long : (output work : ℕ) → work_need ≤ work → draw_outcome protocol steps output work ≡ refused number item
    pub refused_short : (output work : ℕ) → work < work_need → draw_outcome protocol steps output work ≡ refused 1 0
    pub left : (output : List ℕ) (work : ℕ) → draw_output protocol steps output work ≡ output
    -- "with 9 or 14 where the work area is long enough": the least node that has the cause
    pub nine_or_fourteen : (number ≡ 9) ⊎ (number ≡ 14)
    pub says : Says (draw_rows_same p well.nodes) number item
    -- "and no graph of these steps in this order is accepted, whatever its edges and the property": none whose nodes are these, and none whose bytes
    -- begin with those of the steps
    pub no_graph :
        (property' graph : List ℕ) → Bytes property' → Bytes graph → (e : ℕ) → node_list p graph 0 ≡ read well.nodes e
        → (work : ℕ) (c : Checked) → check_outcome protocol property' graph work ≡ passed c → ⊥
    pub no_bytes :
        (property' rest : List ℕ) → Bytes property' → Bytes (steps ++ rest)
        → (work : ℕ) (c : Checked) → check_outcome protocol property' (steps ++ rest) work ≡ passed c → ⊥

  -- the whole list
  pub record WholeList : Type 0 where
    -- "the writer, lent enough output and work area, draws a graph exactly when the whole list is such a run. That graph .."
    pub run_drawn : SuchRun p well.nodes → IsDrawn
    pub drawn_run : (output work n : ℕ) → draw_outcome protocol steps output work ≡ passed n → SuchRun p well.nodes
    -- "If the list is no run, then .."
    pub no_run_refused : ¬ SuchRun p well.nodes → IsRefused
    -- and it is a run or none
    pub run_or_none : SuchRun p well.nodes ⊎ ¬ SuchRun p well.nodes

pub record DemandThree : Type 0 where
  -- "For every protocol, property and graph, if the graph is accepted, then its nodes in file order are a run of the multiset rewriting from the
  -- empty state, no fresh name made twice, and it is ruled an attack exactly when the trace makes the property false."
  pub accepted_graphs :
      (protocol property graph : List ℕ) (b : Bytes protocol) (c : Bytes property) (d : Bytes graph) (work : ℕ) (r : Checked)
      → check_outcome protocol property graph work ≡ passed r → IsRuled protocol property graph b c d r
  -- "For every fit protocol, every fit property and every well-formed step list within document 01's sizes, steps that cannot be taken included, .."
  pub step_lists :
      (protocol property steps : List ℕ) (b : Bytes protocol) → Bytes property → (s : Bytes steps) (p : Protocol) (fit : FitFile protocol p) (f : Formula)
      → FitProperty p property f → (well : WellFormed p steps) → WholeList protocol property steps b s p fit f well

-- ── the proof ──
got_one : {A : Type 0} {x y : A} {d e : ℕ} → got x d ≡ got y e → x ≡ y
got_one h = cc

read_one : {A : Type 0} {x y : A} {d e : ℕ} → read x d ≡ read y e → x ≡ y
read_one h = cc

module _
    (protocol property steps : List ℕ) (bytes : Bytes protocol) (property_bytes : Bytes property) (steps_bytes : Bytes steps) (p : Protocol)
    (fit : FitFile protocol p) (f : Formula) (fit_property : FitProperty p property f) (well : WellFormed p steps) where
  abbrev xs : List Node
  xs = well.nodes

  within : Within p
  within = fit_within protocol bytes p fit

  nodes_within : All (NodeWithin p) xs
  nodes_within = (well_within protocol steps bytes steps_bytes p fit well).each

  -- the machine runs just where the list is such a run
  machine_run : IsRun p xs ↔ SuchRun p xs
  machine_run = such_run_exactly p within xs nodes_within

  -- a run
  drawn_as : (es : List Edge) → drawn p xs ≡ passed es → IsDrawn protocol property steps bytes steps_bytes p fit f well
  drawn_as es e =
      let g : Graph = graph_of_lem xs es in
      let n : ℕ = length (encode_graph g) in
      let d = drawn_draws protocol steps bytes steps_bytes p fit well es e in
      let is = drawn_graph protocol steps bytes steps_bytes p fit well es e in
      let b : Bytes (encode_graph g) = graph_bytes xs es (subst Bytes d.its_steps steps_bytes) in
      record {
        graph = encode_graph g;
        enough = λ output work long l.
            let o = room protocol steps (length output) work long fit.short well.short g is l in
            let w = output_written protocol steps output work n g o is in
            (o, sym w, ap (take n) (sym w) ∙ written_front output (encode_graph g) l);
        less = λ output work long l.
            let o = no_room protocol steps (length output) work long fit.short well.short g is l in
            (o, sym (output_kept protocol steps output work 15 n o));
        edges = es;
        earliest = d.its_edges;
        no_others = λ fs h. earliest_unique_same p within xs nodes_within fs es h d.its_edges;
        is_graph = refl;
        these_steps = node_bytes protocol steps p g d;
        accepted = λ work long.
            (graph_exactly protocol property (encode_graph g) bytes property_bytes b p fit f fit_property work long (checked p f g)).1
            (g, record { short = d.small; is = d.is_graph }, refl);
        attack =
            nodes_attack p (fit_within protocol bytes p fit) f fit_property.fits xs (well_within protocol steps bytes steps_bytes p fit well).each
            well.right;
      }

  -- a graph of these nodes that is accepted makes them a run
  pub graph_run :
      (property' graph : List ℕ) → Bytes property' → Bytes graph → (e : ℕ) → node_list p graph 0 ≡ read xs e
      → (work : ℕ) (c : Checked) → check_outcome protocol property' graph work ≡ passed c → SuchRun p xs
  graph_run property' graph b d e h work c o =
      let a = accepted_run protocol property' graph bytes b d work c o in
      let q : Protocol = a.its.is_protocol in
      let g : Graph = a.its.is_graph in
      let i : q ≡ p = got_one (sym a.its.files.fit.reads ∙ fit.reads) in
      let m = nodes_back q graph d g.nodes 0 (listed encode_edge g.edges) a.its.files.is_graph.within.0 a.its.files.is_graph.bytes in
      let j : g.nodes ≡ xs = read_one (sym m ∙ ap (λ (z : Protocol). node_list z graph 0) i ∙ h) in
      subst (λ (z : Protocol). SuchRun z xs) i (subst (λ (zs : List Node). SuchRun q zs) j a.run)

  refused_as : (n k : ℕ) → drawn p xs ≡ refused n k → ¬ SuchRun p xs → IsRefused protocol property steps bytes steps_bytes p fit f well
  refused_as n k e none = record {
    number = n;
    item = k;
    refused_long = list_refused protocol steps bytes steps_bytes p fit well n k e;
    refused_short = work_short protocol steps;
    left = λ output work.
        let (m, j, o) = always_refused protocol steps bytes steps_bytes p fit well n k e (length output) work in
        sym (output_kept protocol steps output work m j o);
    nine_or_fourteen = cleared.nine_or_fourteen p xs n k e;
    says =
        let table = subst (Ruled (draw_rows_same p xs) (EarliestSame p xs)) e (draw_table_same p within xs nodes_within) in
        ruled_says (EarliestSame p xs) (draw_rows_same p xs) n k table;
    no_graph = λ property' graph b d e h work c o. none (graph_run property' graph b d e h work c o);
    no_bytes = λ property' rest b d work c o.
        none (graph_run property' (steps ++ rest) b d (0 + length (encode_nodes xs))
        (nodes_back p (steps ++ rest) d xs 0 rest (well_within protocol steps bytes steps_bytes p fit well)
        (ap (λ (s : List ℕ). s ++ rest) (steps_form p steps steps_bytes xs well.end well.reads).1))
        work c o);
  }

  -- the edges decide
  pub whole_list : WholeList protocol property steps bytes steps_bytes p fit f well
  whole_list = go (drawn p xs) refl
    where
      go : (r : Ruling (List Edge)) → drawn p xs ≡ r → WholeList protocol property steps bytes steps_bytes p fit f well
      go (passed es) e =
          let run = machine_run.0 ((draws_exactly p xs).0 (es, e)) in
          record {
            run_drawn = λ r. drawn_as es e;
            drawn_run = λ output work n o. run;
            no_run_refused = λ none. absurd (none run);
            run_or_none = inl run;
          }
      go (refused n k) e =
          let none : ¬ SuchRun p xs = λ r. refused_no_run p xs n k e (machine_run.1 r) in
          record {
            run_drawn = λ r. absurd (none r);
            drawn_run = λ output work m o.
                let (i, j, q) = always_refused protocol steps bytes steps_bytes p fit well n k e output work in
                absurd (refused_passed i j m (sym q ∙ o));
            no_run_refused = refused_as n k e;
            run_or_none = inr none;
          }

-- demand 3
pub demand_three : DemandThree
demand_three = record { accepted_graphs = accepted_run; step_lists = whole_list }
