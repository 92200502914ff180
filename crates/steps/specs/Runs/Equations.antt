-- Runs, accepted graphs, the earliest sources and the rows of the table by the equations: two facts are the same where they are of one symbol and
-- the equations make their arguments equal. For nodes within the limits this is what the test of facts says, so that nobody has to believe
-- canonical forms.
use Rattle.std.specs.Prelude.{ℕ, List, ◌↔◌, ◌≡◌, refl}
use Rattle.std.specs.Prelude.{Option, Some, None}
use Rattle.std.proofs.lemmas.Option.{none-some}
use Rattle.std.proofs.Common.{sym, ◌∙◌, ap}
use Rattle.lists.specs.Lists.{nth}
use Rattle.lists.specs.Lists.Laws.{map_nth}
use Rattle.lists.specs.All.{All}
use Rattle.lists.specs.All.Laws.{all_map, all_nth, map_all}
use Rattle.rewriting.specs.Graph as graph
use Rattle.rewriting.specs.Graph.{Place, Edge, in_node, premise_at, conclusion_at}
use Rattle.rewriting.specs.Graph.Laws.{Implies, accepted_as}
use Rattle.rewriting.specs.Earliest.{Earliest}
use Rattle.rewriting.proofs.Earliest.Laws.{earliest_unique, earliest_accepted, earliest_as}
use Rattle.rewriting.specs.Facts.{Tested}
use Rattle.rewriting.specs.Table.{Ruling, passed, refused, Row, Absent, Ruled}
use Rattle.rewriting.specs.Table.Laws.{RestateAll, ruled_unique, ruled_restated, ruled_good, absent_restated, restate_back}
use Rattle.rewriting.specs.Rewriting.{Rewrites}
use Rattle.rewriting.proofs.Rewriting.Laws.{GoodNode}
use Rattle.rewriting.proofs.Rewriting.Laws as machines
use Rattle.rewriting.specs.Causes.{graph_rows, draw_rows}
use Rattle.rewriting.proofs.Causes.Laws as causes
use Rattle.rewriting.specs.Checker.{check_graph}
use Rattle.rewriting.proofs.Whole.{machine_rows}
use Rattle.term.specs.Arity.{arity, tag_arities}
use Rattle.protocol.specs.Figures.{premise_list, conclusion_list}
use Rattle.protocol.specs.Protocol.{Fact, Protocol}
use Rattle.protocol.specs.Protocol.Limits.{Within}
use Rattle.steps.specs.Nodes.{Node, NodeWithin}
use Rattle.steps.specs.Facts.{facts_of, SameFact, is_linear}
use Rattle.steps.specs.Facts.Formed.{FactFormed, facts_formed, formed_decides}
use Rattle.steps.specs.Runs.{protocol_facts, rewritten, rewrittens, Accepted, NamesOnce}
use Rattle.steps.specs.Runs.Theorems.{IsRun, absent_exactly, check_table, check_accepted}
use Rattle.steps.specs.Runs.Theorems.{drawn, EarliestTested, draw_table, draws_exactly, draws_earliest, drawn_accepts, refused_none}

-- "equal facts count as the same fact"
abbrev pub EqualFacts : Protocol → Fact → Fact → Type 0
EqualFacts p = SameFact (arity (tag_arities p.functions))

module _ (p : Protocol) (xs : List Node) where
  -- "The nodes are a run exactly when none fails"
  abbrev pub RunSame : Type 0
  RunSame = Rewrites (EqualFacts p) (is_linear p) (rewrittens p xs)

  -- 9 to 13 of a graph, and 9 and 14 of a drawing
  abbrev pub graph_rows_same : List Edge → List Row
  graph_rows_same edges = graph_rows (EqualFacts p) (is_linear p) (rewrittens p xs) edges

  abbrev pub draw_rows_same : List Row
  draw_rows_same = draw_rows (EqualFacts p) (is_linear p) (rewrittens p xs)

  -- "An accepted graph has: each edge from an earlier node, its two facts equal; just one edge into each premise; at most one out of each
  -- linear conclusion; no name made twice."
  abbrev pub AcceptedSame : List Edge → Type 0
  AcceptedSame edges = graph.Accepted (EqualFacts p) (is_linear p) (rewrittens p xs) edges

  -- "For each premise, nodes in order and premises in order, the writer takes the lowest node and then the lowest conclusion that is equal and, if
  -- linear, still unused. Edges are written in that order of premises."
  abbrev pub EarliestSame : List Edge → Type 0
  EarliestSame edges = Earliest (EqualFacts p) (is_linear p) (rewrittens p xs) edges

-- ── what holds of all facts of the nodes holds of a fact at a place ──
module _ (p : Protocol) (xs : List Node) (Q : Fact → Type 0) (each : All (λ x. (list : ℕ) → All Q (facts_of p list x)) xs) where
  at_holds :
      (facts : graph.Node Fact → List Fact) (list : ℕ) → ((x : Node) → facts (rewritten p x) ≡ facts_of p list x) → (a : Place) (f : Fact)
      → graph.fact_at facts (rewrittens p xs) a ≡ Some f → Q f
  at_holds facts list same a f h = go (nth (rewrittens p xs) a.node) refl h
    where
      go : (o : Option (graph.Node Fact)) → nth (rewrittens p xs) a.node ≡ o → in_node facts a.index o ≡ Some f → Q f
      go None e q = absurd (none-some f q)
      go (Some y) e q =
          let (x, i, j) = map_nth (rewritten p) xs a.node y e in
          let k : nth (facts_of p list x) a.index ≡ Some f = ap (λ (l : List Fact). nth l a.index) (sym (same x) ∙ ap facts j) ∙ q in
          all_nth Q (facts_of p list x) (all_nth _ xs each a.node x i list) a.index f k

  pub source_holds : (a : Place) (f : Fact) → conclusion_at (rewrittens p xs) a ≡ Some f → Q f
  source_holds = at_holds (λ y. y.conclusions) conclusion_list (λ x. refl)

  pub target_holds : (a : Place) (f : Fact) → premise_at (rewrittens p xs) a ≡ Some f → Q f
  target_holds = at_holds (λ y. y.premises) premise_list (λ x. refl)

-- ── the two say the same ──
module _ (p : Protocol) (fit : Within p) (xs : List Node) (within : All (NodeWithin p) xs) where
  formed_each : All (λ x. (list : ℕ) → All (FactFormed p) (facts_of p list x)) xs
  formed_each = all_map (NodeWithin p) _ (λ x w list. facts_formed p fit x w list) xs within

  source_formed : (a : Place) (f : Fact) → conclusion_at (rewrittens p xs) a ≡ Some f → FactFormed p f
  source_formed = source_holds p xs (FactFormed p) formed_each

  target_formed : (a : Place) (f : Fact) → premise_at (rewrittens p xs) a ≡ Some f → FactFormed p f
  target_formed = target_holds p xs (FactFormed p) formed_each

  -- the test of facts decides between the conclusions and the premises
  tested_equal : Implies (rewrittens p xs) (Tested (protocol_facts p)) (EqualFacts p)
  tested_equal a b f g h k = (formed_decides p fit f g (source_formed a f h) (target_formed b g k)).0

  equal_tested : Implies (rewrittens p xs) (EqualFacts p) (Tested (protocol_facts p))
  equal_tested a b f g h k = (formed_decides p fit f g (source_formed a f h) (target_formed b g k)).1

  pub accepted_exactly : (edges : List Edge) → Accepted p xs edges ↔ AcceptedSame p xs edges
  accepted_exactly edges = (accepted_as tested_equal (is_linear p) edges, accepted_as equal_tested (is_linear p) edges)

  earliest_exactly : (edges : List Edge) → EarliestTested p xs edges ↔ EarliestSame p xs edges
  earliest_exactly edges = (earliest_as (is_linear p) tested_equal equal_tested edges, earliest_as (is_linear p) equal_tested tested_equal edges)

  -- ── runs, and the rows ──
  node_good : (x : Node) → NodeWithin p x → GoodNode (FactFormed p) (rewritten p x)
  node_good x w = record { premises = facts_formed p fit x w premise_list; conclusions = facts_formed p fit x w conclusion_list }

  nodes_good : All (GoodNode (FactFormed p)) (rewrittens p xs)
  nodes_good = map_all (NodeWithin p) (GoodNode (FactFormed p)) (rewritten p) node_good xs within

  pub run_exactly : IsRun p xs ↔ RunSame p xs
  run_exactly = machines.run_exactly (protocol_facts p) (EqualFacts p) (FactFormed p) (formed_decides p fit) (rewrittens p xs) nodes_good

  graph_rows_lem : (edges : List Edge) → RestateAll (graph_rows (Tested (protocol_facts p)) (is_linear p) (rewrittens p xs) edges) (graph_rows_same p xs edges)
  graph_rows_lem edges = causes.graph_rows_lem (protocol_facts p) (EqualFacts p) (rewrittens p xs) tested_equal equal_tested edges

  -- 9 to 13 are absent just where the graph is accepted
  pub absent_same : (edges : List Edge) → Absent (graph_rows_same p xs edges) ↔ AcceptedSame p xs edges
  absent_same edges =
      let rows = graph_rows_lem edges in
      let tested = graph_rows (Tested (protocol_facts p)) (is_linear p) (rewrittens p xs) edges in (
        (λ a. (accepted_exactly edges).0
            ((absent_exactly p xs edges).0 (absent_restated (graph_rows_same p xs edges) tested (restate_back tested (graph_rows_same p xs edges) rows) a))),
        (λ g. absent_restated tested (graph_rows_same p xs edges) rows ((absent_exactly p xs edges).1 ((accepted_exactly edges).1 g))),
      )

  -- the passes of 9 to 13 answer what the table says, and let through just the accepted graphs
  pub check_table_same :
      {A : Type 0} (edges : List Edge) (a : A) (Good : A → Type 0) → (AcceptedSame p xs edges → Good a)
      → Ruled (graph_rows_same p xs edges) Good (check_graph (protocol_facts p) (rewrittens p xs) edges a)
  check_table_same edges a Good h =
      ruled_restated Good (graph_rows (Tested (protocol_facts p)) (is_linear p) (rewrittens p xs) edges) (graph_rows_same p xs edges) _ (graph_rows_lem edges)
      (check_table p xs edges a Good (λ g. h ((accepted_exactly edges).0 g)))

  pub check_accepted_same :
      {A : Type 0} (edges : List Edge) (a : A)
      → (check_graph (protocol_facts p) (rewrittens p xs) edges a ≡ passed a) ↔ AcceptedSame p xs edges
  check_accepted_same edges a = (
    (λ h. (accepted_exactly edges).0 ((check_accepted p xs edges a).0 h)),
    (λ g. (check_accepted p xs edges a).1 ((accepted_exactly edges).1 g)),
  )

  -- ── the writer ──
  -- there is one list of edges from the earliest sources, it is accepted, and it is what is drawn
  pub earliest_unique_same : (es fs : List Edge) → EarliestSame p xs es → EarliestSame p xs fs → es ≡ fs
  earliest_unique_same = earliest_unique (EqualFacts p) (is_linear p) (rewrittens p xs)

  pub earliest_accepted_same : (es : List Edge) → NamesOnce p xs → EarliestSame p xs es → AcceptedSame p xs es
  earliest_accepted_same = earliest_accepted (EqualFacts p) (is_linear p) (rewrittens p xs)

  pub draws_earliest_same : (edges : List Edge) → (drawn p xs ≡ passed edges) ↔ (NamesOnce p xs × EarliestSame p xs edges)
  draws_earliest_same edges = (
    (λ h. let (n, g) = (draws_earliest p xs edges).0 h in (n, (earliest_exactly edges).0 g)),
    (λ (n, g). (draws_earliest p xs edges).1 (n, (earliest_exactly edges).1 g)),
  )

  -- "Drawing: .. 9, 14", and what is drawn has the earliest sources
  pub draw_table_same : Ruled (draw_rows_same p xs) (EarliestSame p xs) (drawn p xs)
  draw_table_same =
      ruled_good (EarliestTested p xs) (EarliestSame p xs) (λ es g. (earliest_exactly es).0 g) (draw_rows_same p xs) (drawn p xs)
      (ruled_restated (EarliestTested p xs) (machine_rows (protocol_facts p) (rewrittens p xs)) (draw_rows_same p xs) (drawn p xs)
      (causes.draw_rows_lem (protocol_facts p) (EqualFacts p) (FactFormed p) (formed_decides p fit) (rewrittens p xs) nodes_good) (draw_table p xs))

  -- which says just this
  pub draw_one_same : (r : Ruling (List Edge)) → Ruled (draw_rows_same p xs) (EarliestSame p xs) r → r ≡ drawn p xs
  draw_one_same r h = ruled_unique (EarliestSame p xs) earliest_unique_same (draw_rows_same p xs) r (drawn p xs) h draw_table_same

  -- "draws a graph exactly when the whole list is such a run. That graph .. is accepted"
  pub draws_exactly_same : ((edges : List Edge) × (drawn p xs ≡ passed edges)) ↔ RunSame p xs
  draws_exactly_same = ((λ d. run_exactly.0 ((draws_exactly p xs).0 d)), (λ r. (draws_exactly p xs).1 (run_exactly.1 r)))

  pub drawn_accepts_same : (edges : List Edge) → drawn p xs ≡ passed edges → AcceptedSame p xs edges
  drawn_accepts_same edges h = (accepted_exactly edges).0 (drawn_accepts p xs edges h)

  -- "If the list is no run, .. no graph of these steps in this order is accepted, whatever its edges"
  pub refused_none_same : (n k : ℕ) → drawn p xs ≡ refused n k → (edges : List Edge) → ¬ AcceptedSame p xs edges
  refused_none_same n k h edges g = refused_none p xs n k h edges ((accepted_exactly edges).1 g)

  -- "Steps that could be drawn before can still be drawn": there are earliest sources just where the nodes are a run
  pub run_earliest_same : RunSame p xs ↔ (NamesOnce p xs × ((edges : List Edge) × EarliestSame p xs edges))
  run_earliest_same = (
    (λ r. let (es, e) = draws_exactly_same.1 r in let (n, g) = (draws_earliest_same es).0 e in (n, (es, g))),
    (λ (n, (es, g)). draws_exactly_same.0 (es, (draws_earliest_same es).1 (n, g))),
  )
