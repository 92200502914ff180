-- Drawing case by case, as the code goes: the outcome, and what is left in the output and the work area.
use Rattle.std.specs.Prelude.{ℕ, ◌≤◌, ◌<◌, ◌≡◌, length}
use mathlib.Core.List.{List, [], ◌∷◌}
use Rattle.std.proofs.Common.{ap, ap₂, sym, ◌∙◌}
use Rattle.octets.specs.Splice.{splice}
use Rattle.rewriting.specs.Table.{Ruling, passed, refused, Pass, and_then}
use Rattle.rewriting.specs.Table.Passes.{less_pass}
use Rattle.protocol.specs.Protocol.{Protocol}
use Rattle.steps.specs.Causes.{steps_item}
use Rattle.steps.specs.WellFormed.{steps_limit}
use Rattle.graph.specs.Graph.{Graph, encode_graph}
use Rattle.checker.specs.Answer.{work_need, work_after, output_after}
use Rattle.checker.specs.Passing.{less_yes, less_no}
use Rattle.checker.specs.Files.{protocol_limit, protocol_item, protocol_ruling}
use Rattle.checker.specs.Draw.{steps_under, graph_drawn, need_of, room_of, draw_outcome, graph_bytes, draw_output, draw_work}

-- the graph that is drawn, from the protocol that the file holds
pub drawn_under : (protocol steps : List ℕ) (q : Protocol) → protocol_ruling protocol ≡ passed q → graph_drawn protocol steps ≡ steps_under q steps
drawn_under protocol steps q fit = ap (λ (r : Ruling Protocol). and_then r (λ p. steps_under p steps)) fit

module _ (protocol steps : List ℕ) (output work : ℕ) where
  abbrev Outcome : Ruling ℕ
  Outcome = draw_outcome protocol steps output work

  abbrev Files : Ruling ℕ
  Files = and_then (graph_drawn protocol steps) (room_of output)

  abbrev on_steps : List Pass
  on_steps = less_pass 2 steps_item steps_limit (length steps) ∷ []

  abbrev on_protocol : List Pass
  on_protocol = less_pass 2 protocol_item protocol_limit (length protocol) ∷ on_steps

  -- ── sizes ──
  pub work_short : work < work_need → Outcome ≡ refused 1 0
  unfolding draw_outcome
  work_short h = less_yes 1 0 work work_need on_protocol Files h

  module _ (long : work_need ≤ work) where
    pub protocol_over : protocol_limit < length protocol → Outcome ≡ refused 2 protocol_item
    unfolding draw_outcome
    protocol_over h = less_no 1 0 work work_need on_protocol Files long ∙ less_yes 2 protocol_item protocol_limit (length protocol) on_steps Files h

    pub steps_over : length protocol ≤ protocol_limit → steps_limit < length steps → Outcome ≡ refused 2 steps_item
    unfolding draw_outcome
    steps_over p h =
        less_no 1 0 work work_need on_protocol Files long
        ∙ less_no 2 protocol_item protocol_limit (length protocol) on_steps Files p
        ∙ less_yes 2 steps_item steps_limit (length steps) [] Files h

    -- ── the files ──
    module _ (p : length protocol ≤ protocol_limit) (s : length steps ≤ steps_limit) where
      pub sized : Outcome ≡ Files
      unfolding draw_outcome
      sized =
          less_no 1 0 work work_need on_protocol Files long
          ∙ less_no 2 protocol_item protocol_limit (length protocol) on_steps Files p
          ∙ less_no 2 steps_item steps_limit (length steps) [] Files s

      pub no_graph : (n k : ℕ) → graph_drawn protocol steps ≡ refused n k → Outcome ≡ refused n k
      no_graph n k e = sized ∙ ap (λ (r : Ruling Graph). and_then r (room_of output)) e

      pub no_protocol : (n k : ℕ) → protocol_ruling protocol ≡ refused n k → Outcome ≡ refused n k
      no_protocol n k e = no_graph n k (ap (λ (r : Ruling Protocol). and_then r (λ q. steps_under q steps)) e)

      pub no_steps : (q : Protocol) → protocol_ruling protocol ≡ passed q → (n k : ℕ) → steps_under q steps ≡ refused n k → Outcome ≡ refused n k
      no_steps q fit n k e = no_graph n k (drawn_under protocol steps q fit ∙ e)

      -- ── the graph ──
      module _ (g : Graph) (is : graph_drawn protocol steps ≡ passed g) where
        pub drawn_room : Outcome ≡ room_of output g
        drawn_room = sized ∙ ap (λ (r : Ruling Graph). and_then r (room_of output)) is

        pub no_room : output < need_of g → Outcome ≡ refused 15 (need_of g)
        no_room h = drawn_room ∙ less_yes 15 (need_of g) output (need_of g) [] (passed (need_of g)) h

        pub room : need_of g ≤ output → Outcome ≡ passed (need_of g)
        room h = drawn_room ∙ less_no 15 (need_of g) output (need_of g) [] (passed (need_of g)) h

-- ── lent memory ──
-- a refusal leaves the output
pub output_kept :
    (protocol steps output : List ℕ) (work n k : ℕ) → draw_outcome protocol steps (length output) work ≡ refused n k
    → output ≡ draw_output protocol steps output work
unfolding draw_output
output_kept protocol steps output work n k e = sym (ap (λ (r : Ruling ℕ). output_after r (graph_bytes (graph_drawn protocol steps)) output) e)

-- where it passes, the graph starts the output
pub output_written :
    (protocol steps output : List ℕ) (work n : ℕ) (g : Graph) → draw_outcome protocol steps (length output) work ≡ passed n
    → graph_drawn protocol steps ≡ passed g → splice output 0 (encode_graph g) ≡ draw_output protocol steps output work
unfolding draw_output
output_written protocol steps output work n g e is =
    sym (ap₂ (λ (r : Ruling ℕ) (b : Ruling Graph). output_after r (graph_bytes b) output) e is)

-- refusal 1 leaves the work area, every other answer leaves zeros
pub work_kept : (protocol steps work : List ℕ) (output : ℕ) → length work < work_need → work ≡ draw_work protocol steps output work
unfolding draw_work
work_kept protocol steps work output h =
    sym (ap (λ (r : Ruling ℕ). work_after r work) (work_short protocol steps output (length work) h))
