-- The outcome of drawing is what the table says.
use Rattle.std.specs.Prelude.{ℕ, ◌≤◌, List, [], ◌∷◌, ◌++◌, ◌≡◌, length}
use Rattle.std.proofs.Math.Path.{refl, ap}
use Rattle.std.proofs.Common.{sym, ◌∙◌, subst, arith}
use Rattle.octets.specs.Head.{Bytes}
use Rattle.number.specs.Layout.{listed}
use Rattle.lists.specs.All.{All}
use Rattle.rewriting.specs.Table.{Ruling, passed, Ruled, and_then, rows_after}
use Rattle.rewriting.specs.Table.Laws.{ruled, ruled_then, ruled_and_then, ruled_good, ruled_unique, passed_good, passed_inj}
use Rattle.rewriting.specs.Table.Passes.{need_pass}
use Rattle.rewriting.specs.Graph.{Edge}
use Rattle.protocol.specs.Protocol.{Protocol}
use Rattle.protocol.specs.Protocol.Limits.{Within}
use Rattle.steps.specs.Nodes.{Node, encode_nodes, read}
use Rattle.steps.specs.Nodes as nodes
use Rattle.steps.specs.Nodes.Exact.{steps_form, steps_back}
use Rattle.steps.specs.Values.{NodeRight}
use Rattle.steps.specs.Runs.Equations.{EarliestSame, accepted_exactly, draw_rows_same, draw_table_same, draws_earliest_same}
use Rattle.steps.specs.Runs.Theorems.{drawn, drawn_accepts}
use Rattle.steps.specs.Causes.{steps_item, read_rows, read_ruling}
use Rattle.steps.specs.Causes.Laws.{read_ruled, values_ruled}
use Rattle.steps.specs.WellFormed.{steps_limit, WellFormed}
use Rattle.graph.specs.Graph.{Graph, graph_of_lem, encode_edge, encode_graph}
use Rattle.graph.specs.Graph.Limits.{graph_within, graph_short}
use Rattle.graph.specs.Causes.{DependencyGraph}
use Rattle.checker.specs.Files.{protocol_limit, protocol_ruling, protocol_rows}
use Rattle.checker.specs.Files.Laws.{IsFit, protocol_ruled}
use Rattle.checker.specs.Files.Fit.{FitFile, fit_within, fit_passed, is_fit_file}
use Rattle.checker.specs.Check.{graph_limit}
use Rattle.checker.specs.Check.Laws.{ruled_map, at_most}
use Rattle.checker.specs.Draw.{graph_of, nodes_under, nodes_under_rows, steps_under, steps_under_rows, graph_drawn, graph_drawn_rows, need_of, room_of, room_of_rows}
use Rattle.checker.specs.Draw.{draw_sizes, draw_outcome, draw_rows}
use Rattle.checker.specs.Draw.Cases.{drawn_under}
use Rattle.checker.specs.Draw.Steps.{with_edges, well_under}

-- "steps 3 and 6, 7, 8, 9, 14": what passes is the graph of right nodes and of the edges that are drawn
pub under_ruled :
    (p : Protocol) → Within p → (steps : List ℕ) → Bytes steps → (Good : Graph → Type 0)
    → ((xs : List Node) (e : ℕ) → nodes.steps p steps ≡ read xs e → All (NodeRight p) xs → (es : List Edge) → drawn p xs ≡ passed es
    → Good (graph_of_lem xs es))
    → Ruled (steps_under_rows p steps) Good (steps_under p steps)
unfolding steps_under
under_ruled p fit steps bytes Good good =
    let r = nodes.steps p steps in
    ruled_and_then (λ xs. (e : ℕ) × (r ≡ read xs e)) Good (read_rows steps_item r) (read_ruling steps_item r) (nodes_under_rows p) (nodes_under p)
    (read_ruled steps_item r) (λ xs (e, h) q.
    let within = (steps_form p steps bytes xs e h).0.each in
    values_ruled p Good xs within (draw_rows_same p xs) (graph_of p xs)
    (λ right. ruled_map (EarliestSame p xs) Good (graph_of_lem xs) (draw_rows_same p xs) (drawn p xs)
    (λ es g. good xs e h right es) (draw_table_same p fit xs within)))

module _ (protocol steps : List ℕ) where
  -- the files hold a fit protocol and, under it, the nodes of this graph, whose edges come from the earliest sources
  pub record Draws (p : Protocol) (g : Graph) : Type 0 where
    pub fit : FitFile protocol p
    pub short : length steps ≤ steps_limit
    pub its_steps : steps ≡ encode_nodes g.nodes
    pub its_edges : EarliestSame p g.nodes g.edges
    -- a dependency graph within the sizes, accepted by the equations
    pub small : need_of g ≤ graph_limit
    pub is_graph : DependencyGraph p (encode_graph g) g

  -- the length of that graph
  pub record DrawnLength (n : ℕ) : Type 0 where
    pub is_protocol : Protocol
    pub is_graph : Graph
    pub files : Draws is_protocol is_graph
    pub needs : n ≡ need_of is_graph

  -- "its graph .. holds the steps' node bytes unchanged"
  pub node_bytes : (p : Protocol) (g : Graph) → Draws p g → encode_graph g ≡ steps ++ listed encode_edge g.edges
  node_bytes p g d = ap (λ (s : List ℕ). s ++ listed encode_edge g.edges) (sym d.its_steps)

  module _ (bytes : Bytes protocol) (steps_bytes : Bytes steps) where
    -- ── what the files hold is what is drawn ──
    draws_well : (p : Protocol) (g : Graph) → Draws p g → WellFormed p steps
    draws_well p g d = record {
      short = d.short;
      nodes = g.nodes;
      end = length steps;
      reads = steps_back p steps steps_bytes g.nodes d.is_graph.within.0 d.its_steps;
      right = d.is_graph.right;
    }

    pub draws_passed : (p : Protocol) (g : Graph) → Draws p g → graph_drawn protocol steps ≡ passed g
    unfolding draws_well
    draws_passed p g d =
        drawn_under protocol steps p (fit_passed protocol bytes p d.fit)
        ∙ well_under p steps steps_bytes (draws_well p g d)
        ∙ ap (with_edges p g.nodes)
        ((draws_earliest_same p (fit_within protocol bytes p d.fit) g.nodes d.is_graph.within.0.each g.edges).1
        (d.is_graph.accepted.names_once, d.its_edges))

    -- there is one graph, and one length
    pub draws_one : (p q : Protocol) (g h : Graph) → Draws p g → Draws q h → g ≡ h
    draws_one p q g h a b = passed_inj g h (sym (draws_passed p g a) ∙ draws_passed q h b)

    lengths_unique : (m n : ℕ) → DrawnLength m → DrawnLength n → m ≡ n
    lengths_unique m n a b =
        a.needs ∙ ap need_of (draws_one a.is_protocol b.is_protocol a.is_graph b.is_graph a.files b.files) ∙ sym b.needs

    -- ── the files are ruled by their rows ──
    pub nodes_draws :
        (p : Protocol) → FitFile protocol p → length steps ≤ steps_limit → (xs : List Node) (e : ℕ) → nodes.steps p steps ≡ read xs e
        → All (NodeRight p) xs → (es : List Edge) → drawn p xs ≡ passed es → Draws p (graph_of_lem xs es)
    nodes_draws p fit l xs e h right es d =
        let f = steps_form p steps steps_bytes xs e h in
        let within = fit_within protocol bytes p fit in
        let acc = drawn_accepts p xs es d in
        record {
          fit = fit;
          short = l;
          its_steps = f.1;
          its_edges = ((draws_earliest_same p within xs f.0.each es).0 d).1;
          small = omega (arith, graph_short p within xs f.0 es acc, ap length f.1);
          is_graph = record {
            within = graph_within p within xs f.0 es acc;
            bytes = refl;
            right = right;
            accepted = (accepted_exactly p within xs f.0.each es).0 acc;
          };
        }

    pub steps_ruled : (p : Protocol) → FitFile protocol p → length steps ≤ steps_limit → Ruled (steps_under_rows p steps) (Draws p) (steps_under p steps)
    steps_ruled p fit l = under_ruled p (fit_within protocol bytes p fit) steps steps_bytes (Draws p) (nodes_draws p fit l)

    abbrev pub SomeDraws : Graph → Type 0
    SomeDraws g = (p : Protocol) × Draws p g

    pub drawn_ruled :
        length protocol ≤ protocol_limit → length steps ≤ steps_limit → Ruled (graph_drawn_rows protocol steps) SomeDraws (graph_drawn protocol steps)
    drawn_ruled k l =
        ruled_and_then (IsFit protocol) SomeDraws (protocol_rows protocol) (protocol_ruling protocol) (λ p. steps_under_rows p steps)
        (λ p. steps_under p steps) (protocol_ruled protocol bytes)
        (λ p h e. ruled_good (Draws p) SomeDraws (λ g d. (p, d)) (steps_under_rows p steps) (steps_under p steps)
        (steps_ruled p (is_fit_file protocol bytes p k h) l))

    -- "Drawing: 1 to 4, steps 3 and 6, 7, 8, 9, 14, 15."
    pub draw_ruled : (output work : ℕ) → Ruled (draw_rows protocol steps output work) DrawnLength (draw_outcome protocol steps output work)
    unfolding draw_outcome
    draw_ruled output work =
        ruled_then DrawnLength (draw_sizes protocol steps work)
        (graph_drawn_rows protocol steps ++ rows_after (graph_drawn protocol steps) (room_of_rows output))
        (and_then (graph_drawn protocol steps) (room_of output))
        (λ a. ruled_and_then SomeDraws DrawnLength (graph_drawn_rows protocol steps) (graph_drawn protocol steps) (room_of_rows output) (room_of output)
        (drawn_ruled (at_most protocol_limit (length protocol) (λ l. a.1.0 1 (refl, l))) (at_most steps_limit (length steps) (λ l. a.1.1.0 5 (refl, l))))
        (λ g (p, d) e. ruled DrawnLength (need_pass 15 output (need_of g) ∷ []) (need_of g)
        (λ b. record { is_protocol = p; is_graph = g; files = d; needs = refl })))

    -- the table says just this
    pub draw_unique :
        (output work : ℕ) (r : Ruling ℕ) → Ruled (draw_rows protocol steps output work) DrawnLength r → r ≡ draw_outcome protocol steps output work
    draw_unique output work r h =
        ruled_unique DrawnLength lengths_unique (draw_rows protocol steps output work) r (draw_outcome protocol steps output work) h (draw_ruled output work)

    -- what is drawn
    pub graph_draws :
        length protocol ≤ protocol_limit → length steps ≤ steps_limit → (g : Graph) → graph_drawn protocol steps ≡ passed g → SomeDraws g
    graph_draws k l g e =
        passed_good SomeDraws (graph_drawn_rows protocol steps) g (subst (Ruled (graph_drawn_rows protocol steps) SomeDraws) e (drawn_ruled k l))

    -- it passes just where the files hold the nodes of such a graph
    pub passed_draws : (output work n : ℕ) → draw_outcome protocol steps output work ≡ passed n → DrawnLength n
    passed_draws output work n e =
        passed_good DrawnLength (draw_rows protocol steps output work) n
        (subst (Ruled (draw_rows protocol steps output work) DrawnLength) e (draw_ruled output work))
