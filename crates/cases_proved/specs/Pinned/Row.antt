-- What a row of the second table claims: a call on files, and its outcome, whatever the work area that is long enough. It is computed in the
-- shortest such area, and a longer one changes nothing.
use Rattle.std.specs.Prelude.{ℕ, ◌≤◌, List, [], ◌∷◌, true, ◌≡◌, length, replicate}
use Rattle.std.proofs.Common.{◌∙◌, ap₂, arith}
use Rattle.lists.specs.All.{All}
use Rattle.lists.specs.All.Laws.{all_map}
use Rattle.number.specs.Layout.{flat}
use Rattle.octets.specs.Splice.{splice}
use Rattle.rewriting.specs.Table.{Ruling, passed, and_then}
use Rattle.rewriting.specs.Table.Passes.{less_pass}
use Rattle.steps.specs.Causes.{steps_item, graph_item}
use Rattle.steps.specs.WellFormed.{steps_limit}
use Rattle.property.specs.Causes.{property_item}
use Rattle.checker.specs.Answer.{work_need, output_after}
use Rattle.checker.specs.Passing.{less_no}
use Rattle.checker.specs.Files.{protocol_limit, term_limit, protocol_item, term_item}
use Rattle.checker.specs.Check.{property_limit, graph_limit, Checked, files_ruling, check_outcome}
use Rattle.checker.specs.Draw.{graph_drawn, graph_bytes, room_of, draw_outcome, draw_output}
use Rattle.checker.specs.Demands.Earliest.{length_exactly}
use Rattle.checker.specs.Canonical.{term_of, room_ruling, canonical_outcome}
use Rattle.cases_proved.specs.Each.{Each, every}
use Rattle.cases_proved.specs.Lines.{are_bytes, bytes_of}

pub data Row : Type 0 where
  -- protocol, property and graph, and what checking them answers
  checks : List ℕ → List ℕ → List ℕ → Ruling Checked → Row
  -- protocol and steps, the output's length, and what drawing them answers
  draws : List ℕ → List ℕ → ℕ → Ruling ℕ → Row
  -- protocol and steps, and the graph that drawing writes of them
  writes : List ℕ → List ℕ → List ℕ → Row
  -- protocol and term, the output's length, and what canonical form answers
  forms : List ℕ → List ℕ → ℕ → Ruling ℕ → Row
  -- a call in a work area of just this length
  in_area : ℕ → Row → Row

-- the outcome in a work area of some length
abbrev pub At : ℕ → Row → Type 0
At work (checks protocol property graph r) = check_outcome protocol property graph work ≡ r
At work (draws protocol steps output r) = draw_outcome protocol steps output work ≡ r
At work (writes protocol steps graph) =
    (are_bytes protocol ≡ true) × (are_bytes steps ≡ true) × (draw_outcome protocol steps (length graph) work ≡ passed (length graph))
    × (graph_bytes (graph_drawn protocol steps) ≡ graph)
At work (forms protocol term output r) = canonical_outcome protocol term output work ≡ r
At work (in_area area row) = At area row

abbrev pub Holds : Row → Type 0
Holds (checks protocol property graph r) = (work : ℕ) → work_need ≤ work → check_outcome protocol property graph work ≡ r
Holds (draws protocol steps output r) = (work : ℕ) → work_need ≤ work → draw_outcome protocol steps output work ≡ r
Holds (writes protocol steps graph) =
    (output : List ℕ) (work : ℕ) → work_need ≤ work → length graph ≤ length output
    → (draw_outcome protocol steps (length output) work ≡ passed (length graph)) × (draw_output protocol steps output work ≡ splice output 0 graph)
Holds (forms protocol term output r) = (work : ℕ) → work_need ≤ work → canonical_outcome protocol term output work ≡ r
Holds (in_area area row) = At area row

-- ── from the shortest output and work area to every longer one ──
written :
    (protocol steps graph : List ℕ) → At work_need (writes protocol steps graph) → Holds (writes protocol steps graph)
unfolding draw_output
written protocol steps graph (p, s, e, b) output work long room =
    let n : ℕ = length graph in
    let exactly = length_exactly protocol steps (bytes_of protocol p) (bytes_of steps s) in
    let o = (exactly (length output) work n long).1 (((exactly n work_need n (omega arith)).0 e).0, room) in
    (o, ap₂ (λ (r : Ruling ℕ) (c : List ℕ). output_after r c output) o b)

pub grown : (row : Row) → At work_need row → Holds row
unfolding check_outcome draw_outcome canonical_outcome
grown (checks protocol property graph r) e = λ work long.
    less_no 1 0 work work_need
    (less_pass 2 protocol_item protocol_limit (length protocol) ∷ less_pass 2 property_item property_limit (length property)
    ∷ less_pass 2 graph_item graph_limit (length graph) ∷ []) (files_ruling protocol property graph) long ∙ e
grown (draws protocol steps output r) e = λ work long.
    less_no 1 0 work work_need
    (less_pass 2 protocol_item protocol_limit (length protocol) ∷ less_pass 2 steps_item steps_limit (length steps) ∷ [])
    (and_then (graph_drawn protocol steps) (room_of output)) long ∙ e
grown (writes protocol steps graph) e = written protocol steps graph e
grown (forms protocol term output r) e = λ work long.
    less_no 1 0 work work_need
    (less_pass 2 protocol_item protocol_limit (length protocol) ∷ less_pass 2 term_item term_limit (length term) ∷ [])
    (and_then (term_of protocol term) (room_ruling output)) long ∙ e
grown (in_area area row) e = e

-- of rows that are computed one by one
pub all_grown : (rows : List Row) → All (At work_need) rows → All Holds rows
all_grown rows h = all_map (At work_need) Holds grown rows h

pub all_hold : (rows : List Row) → Each (At work_need) rows → All Holds rows
all_hold rows h = all_grown rows (every (At work_need) rows h)

-- ── for the files of the rows ──
-- a protocol without free functions, own symbols and rules
abbrev pub none : List ℕ
none = 0x00 ∷ 0x00 ∷ 0x00 ∷ []

-- an own fact of no arguments, with this flag: rule 31 makes it and rule 32 takes it
abbrev pub own_fact : ℕ → List ℕ
own_fact flag = 0x00 ∷ 0x01 ∷ 0x00 ∷ flag ∷ 0x02 ∷ 0x00 ∷ 0x00 ∷ 0x00 ∷ 0x01 ∷ 0x04 ∷ 0x00 ∷ 0x01 ∷ 0x04 ∷ 0x00 ∷ 0x00 ∷ []

-- bytes n times
abbrev pub times : ℕ → List ℕ → List ℕ
times n bytes = flat (λ s. s) (replicate n bytes)
