-- The figures of drawing's outcome are small, whatever the files: no number over 15, no item and no length over 61,440. So the packed answer of
-- the C function comes apart into the outcome.
use Rattle.std.specs.Prelude.{ℕ, ◌≤◌, List, ◌≡◌, refl, length}
use Rattle.std.proofs.Common.{ap, sym, subst, arith}
use Rattle.lists.specs.Choice.{by_size}
use Rattle.octets.specs.Head.{Bytes}
use Rattle.rewriting.specs.Table.{Ruling, passed, refused, rows_after}
use Rattle.rewriting.specs.Table.Laws.{passed_inj, refused_passed}
use Rattle.protocol.specs.Protocol.{Protocol}
use Rattle.protocol.specs.Protocol.Limits.{Within}
use Rattle.steps.specs.Nodes.{Node, most_nodes, Reading, read, broken, no_rule}
use Rattle.steps.specs.Nodes.Unknown.{steps_rule_missing}
use Rattle.steps.specs.Nodes as nodes
use Rattle.steps.specs.Nodes.Exact.{steps_form}
use Rattle.steps.specs.Causes.{steps_item, read_rows, read_ruling}
use Rattle.steps.specs.WellFormed.{steps_limit}
use Rattle.graph.specs.Graph.{Graph}
use Rattle.checker.specs.Answer.{work_need, packed}
use Rattle.checker.specs.Answer.Laws.{unpacked, InBounds, unpacked_packed}
use Rattle.checker.specs.Small.{Small, small_join, small_after, small_fixed, refused_small, small_wider}
use Rattle.checker.specs.Files.{protocol_limit, protocol_ruling, protocol_rows}
use Rattle.checker.specs.Check.{graph_limit}
use Rattle.checker.specs.Check.Bounds as checking
use Rattle.checker.specs.Check.Bounds.{protocol_small, node_small, seen_small, missing_small}
use Rattle.checker.specs.Draw.{nodes_under_rows, steps_under, steps_under_rows, graph_drawn, graph_drawn_rows, need_of, draw_outcome}
use Rattle.checker.specs.Draw.Cases.{work_short, protocol_over, steps_over, no_graph, no_room, room}
use Rattle.checker.specs.Draw.Laws.{SomeDraws, under_ruled, drawn_ruled, graph_draws}

-- ── the steps: numbers to 14, nodes to 512 ──
abbrev pub most_number : ℕ
most_number = 14

module _ (p : Protocol) (file : List ℕ) (bytes : Bytes file) where
  reads : (r : Reading (List Node)) (xs : List Node) → read_ruling steps_item r ≡ passed xs → (e : ℕ) × (r ≡ read xs e)
  reads (read ys e) xs h = (e, ap (λ (z : List Node). read z e) (passed_inj ys xs h))
  reads broken xs h = absurd (refused_passed 3 steps_item xs h)
  reads (no_rule k) xs h = absurd (refused_passed 6 k xs h)

  unruled : (k : ℕ) → nodes.steps p file ≡ no_rule k → k ≤ most_nodes
  unruled k h = missing_small p file bytes k ((steps_rule_missing p file k).0 h)

  nodes_small : (xs : List Node) → length xs ≤ most_nodes → Small most_number most_nodes (nodes_under_rows p xs)
  nodes_small xs few = (
    (omega arith, λ k h. node_small p xs few k h.node h.stands),
    (
      (omega arith, λ k h. node_small p xs few k h.node h.stands),
      ((omega arith, λ k h. seen_small p xs few k h.node h.stands), ((omega arith, λ k h. seen_small p xs few k h.node h.stands), tt)),
    ),
  )

  steps_small : Small most_number most_nodes (steps_under_rows p file)
  steps_small =
      let r = nodes.steps p file in
      small_join most_number most_nodes (read_rows steps_item r) (rows_after (read_ruling steps_item r) (nodes_under_rows p))
      (small_fixed most_number most_nodes 3 steps_item (r ≡ broken) (omega arith) (omega arith), ((omega arith, unruled), tt))
      (small_after most_number most_nodes (read_ruling steps_item r) (nodes_under_rows p) (λ xs h.
      let (e, i) = reads r xs h in
      nodes_small xs (steps_form p file bytes xs e i).0.few))

  pub steps_bounded : Within p → (n k : ℕ) → steps_under p file ≡ refused n k → (n ≤ most_number) × (k ≤ most_nodes)
  steps_bounded fit n k e =
      refused_small most_number most_nodes (λ (g : Graph). Unit {0}) (steps_under_rows p file) (steps_under p file) steps_small
      (under_ruled p fit file bytes (λ (g : Graph). Unit {0}) (λ xs e h right es d. tt)) n k e

-- ── the call: numbers to 15, the bytes needed to 61,440 ──
abbrev pub last_number : ℕ
last_number = 15

abbrev pub DrawSmall : Ruling ℕ → Type 0
DrawSmall (passed n) = n ≤ graph_limit
DrawSmall (refused n k) = (n ≤ last_number) × (k ≤ graph_limit)

module _ (protocol steps : List ℕ) (bytes : Bytes protocol) (steps_bytes : Bytes steps) where
  files_small : Small most_number graph_limit (graph_drawn_rows protocol steps)
  files_small =
      small_join most_number graph_limit (protocol_rows protocol) (rows_after (protocol_ruling protocol) (λ p. steps_under_rows p steps))
      (small_wider checking.most_number checking.most_item most_number graph_limit (omega arith) (omega arith) (protocol_rows protocol)
      (protocol_small protocol bytes))
      (small_after most_number graph_limit (protocol_ruling protocol) (λ p. steps_under_rows p steps) (λ p h.
      small_wider most_number most_nodes most_number graph_limit (omega arith) (omega arith) (steps_under_rows p steps) (steps_small p steps steps_bytes)))

  -- what the files are refused with is no 15
  pub files_bounded :
      length protocol ≤ protocol_limit → length steps ≤ steps_limit → (n k : ℕ) → graph_drawn protocol steps ≡ refused n k
      → (n ≤ most_number) × (k ≤ graph_limit)
  files_bounded p s =
      refused_small most_number graph_limit (SomeDraws protocol steps bytes steps_bytes) (graph_drawn_rows protocol steps) (graph_drawn protocol steps)
      files_small (drawn_ruled protocol steps bytes steps_bytes p s)

module _ (protocol steps : List ℕ) (bytes : Bytes protocol) (steps_bytes : Bytes steps) (output work : ℕ) where
  abbrev Outcome : Ruling ℕ
  Outcome = draw_outcome protocol steps output work

  by : {r : Ruling ℕ} → Outcome ≡ r → DrawSmall r → DrawSmall Outcome
  by e b = subst DrawSmall (sym e) b

  module _ (long : work_need ≤ work) (p : length protocol ≤ protocol_limit) (s : length steps ≤ steps_limit) where
    of_graph : (r : Ruling Graph) → graph_drawn protocol steps ≡ r → DrawSmall Outcome
    of_graph (passed g) e =
        let (q, d) = graph_draws protocol steps bytes steps_bytes p s g e in
        by_size output (need_of g)
        (λ l. by (no_room protocol steps output work long p s g e l) (omega arith, d.small))
        (λ l. by (room protocol steps output work long p s g e l) d.small)
    of_graph (refused n k) e =
        let (m, i) = files_bounded protocol steps bytes steps_bytes p s n k e in
        by (no_graph protocol steps output work long p s n k e) (omega (arith, m), i)

  pub draw_small : DrawSmall Outcome
  draw_small =
      by_size work work_need
      (λ l. by (work_short protocol steps output work l) (omega arith, omega arith))
      (λ long. by_size protocol_limit (length protocol)
      (λ l. by (protocol_over protocol steps output work long l) (omega arith, omega arith))
      (λ p. by_size steps_limit (length steps)
      (λ l. by (steps_over protocol steps output work long p l) (omega arith, omega arith))
      (λ s. of_graph long p s (graph_drawn protocol steps) refl)))

  -- so it fits the answer of the C function, which tells it
  small_bounds : (r : Ruling ℕ) → DrawSmall r → InBounds r
  small_bounds (passed n) h = omega (arith, h)
  small_bounds (refused n k) h = (omega (arith, h.0), omega (arith, h.1))

  pub draw_bounded : InBounds Outcome
  draw_bounded = small_bounds Outcome draw_small

  pub draw_unpacked : unpacked (packed Outcome) ≡ Outcome
  draw_unpacked = unpacked_packed Outcome draw_bounded
