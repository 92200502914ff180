-- "Drawing reads protocol and steps, no property, and returns the length written; its graph starts the output and holds the steps' node
-- bytes unchanged."
use Rattle.std.specs.Prelude.{ℕ, List, [], ◌∷◌, ◌++◌, length}
use Rattle.rewriting.specs.Table.{Ruling, passed, Row, Pass, ruling_then, rows_then, and_then, rows_after}
use Rattle.rewriting.specs.Table.Passes.{less_pass}
use Rattle.protocol.specs.Protocol.{Protocol}
use Rattle.steps.specs.Nodes.{Node}
use Rattle.steps.specs.Nodes as nodes
use Rattle.steps.specs.Values.{value_rows}
use Rattle.steps.specs.Runs.Equations.{draw_rows_same}
use Rattle.steps.specs.Runs.Theorems.{drawn}
use Rattle.steps.specs.Causes.{steps_item, read_rows, read_ruling, value_ruling}
use Rattle.steps.specs.WellFormed.{steps_limit}
use Rattle.graph.specs.Graph.{Graph, graph_of_lem, encode_graph}
use Rattle.checker.specs.Answer.{room_for, room_for_rows, work_need, work_after, output_after, bytes_of}
use Rattle.checker.specs.Files.{protocol_limit, protocol_item, protocol_ruling, protocol_rows}
-- case by case, as the code goes
pub mod Cases
-- the steps under a protocol, case by case
pub mod Steps
-- what the functions inside it promise, and from what they find to that
pub mod Contracts
pub mod Inside
-- its outcome is what the table says
pub mod Laws
-- its figures are small, and its packed answer comes apart into the outcome
pub mod Bounds
-- the work area after every answer but refusal 1
pub mod Cleared
-- what it writes
pub mod Written
-- well-formed steps under a fit protocol: drawn or refused as a whole
pub mod Runs

-- ── the files, each under what those before it hold ──
-- "9, 14": the graph of these nodes, with the edges drawn
abbrev pub graph_of : Protocol → List Node → Ruling Graph
graph_of p xs = and_then (drawn p xs) (λ es. passed (graph_of_lem xs es))

-- "7, 8, 9, 14" of the nodes
abbrev pub nodes_under : Protocol → List Node → Ruling Graph
nodes_under p xs = value_ruling p xs (graph_of p xs)

abbrev pub nodes_under_rows : Protocol → List Node → List Row
nodes_under_rows p xs = value_rows p xs ++ draw_rows_same p xs

-- "steps 3 and 6, 7, 8, 9, 14"
unfoldable pub steps_under : Protocol → List ℕ → Ruling Graph
steps_under p steps = and_then (read_ruling steps_item (nodes.steps p steps)) (nodes_under p)

abbrev pub steps_under_rows : Protocol → List ℕ → List Row
steps_under_rows p steps = read_rows steps_item (nodes.steps p steps) ++ rows_after (read_ruling steps_item (nodes.steps p steps)) (nodes_under_rows p)

-- "3 and 4", then the steps: the graph that is drawn, or the refusal
abbrev pub graph_drawn : List ℕ → List ℕ → Ruling Graph
graph_drawn protocol steps = and_then (protocol_ruling protocol) (λ p. steps_under p steps)

abbrev pub graph_drawn_rows : List ℕ → List ℕ → List Row
graph_drawn_rows protocol steps = protocol_rows protocol ++ rows_after (protocol_ruling protocol) (λ p. steps_under_rows p steps)

-- ── its length, and 15 ──
abbrev pub need_of : Graph → ℕ
need_of g = length (encode_graph g)

abbrev pub room_of : ℕ → Graph → Ruling ℕ
room_of output g = room_for output (need_of g)

abbrev pub room_of_rows : ℕ → Graph → List Row
room_of_rows output g = room_for_rows output (need_of g)

-- 1, and 2 for both files
abbrev pub draw_sizes : List ℕ → List ℕ → ℕ → List Pass
draw_sizes protocol steps work =
    less_pass 1 0 work work_need
    ∷ less_pass 2 protocol_item protocol_limit (length protocol)
    ∷ less_pass 2 steps_item steps_limit (length steps)
    ∷ []

-- ── the call ──
-- "Drawing: 1 to 4, steps 3 and 6, 7, 8, 9, 14, 15."
unfoldable pub draw_outcome : List ℕ → List ℕ → ℕ → ℕ → Ruling ℕ
draw_outcome protocol steps output work =
    ruling_then (draw_sizes protocol steps work) (and_then (graph_drawn protocol steps) (room_of output))

-- the same as rows of the table
abbrev pub draw_rows : List ℕ → List ℕ → ℕ → ℕ → List Row
draw_rows protocol steps output work =
    rows_then (draw_sizes protocol steps work) (graph_drawn_rows protocol steps ++ rows_after (graph_drawn protocol steps) (room_of_rows output))

-- the bytes that it writes where it passes
abbrev pub graph_bytes : Ruling Graph → List ℕ
graph_bytes r = bytes_of encode_graph r

-- ── lent memory ──
unfoldable pub draw_output : List ℕ → List ℕ → List ℕ → ℕ → List ℕ
draw_output protocol steps output work =
    output_after (draw_outcome protocol steps (length output) work) (graph_bytes (graph_drawn protocol steps)) output

unfoldable pub draw_work : List ℕ → List ℕ → ℕ → List ℕ → List ℕ
draw_work protocol steps output work = work_after (draw_outcome protocol steps output (length work)) work
