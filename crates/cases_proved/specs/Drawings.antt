-- Cases of drawing under the printed protocol, by computation, whatever the output and the work area that are enough.
use Rattle.std.specs.Prelude.{ℕ, ◌≤◌, List, [], ◌∷◌, ◌≡◌, refl, length}
use Rattle.std.proofs.Common.{ap, sym, ◌∙◌, arith}
use Rattle.lists.specs.Below.{all_below}
use Rattle.octets.specs.Splice.{splice}
use Rattle.number.specs.Groups.{groups, groups_in, number_limit}
use Rattle.number.specs.Reading.{read_in, read_number, below, many, counted}
use Rattle.term.specs.Term.{Term, leaf, fresh}
use Rattle.term.specs.Arity.{arity, tag_arities}
use Rattle.term.specs.Reader.{symbol_at, term, term_in}
use Rattle.message.specs.Canon.{apply}
use Rattle.rewriting.specs.Table.{Ruling, passed, refused}
use Rattle.rewriting.specs.Graph.{Edge}
use Rattle.protocol.specs.Protocol.{rule_term, fact, facts, layout, rule, own, protocol}
use Rattle.rules.specs.Numbered.{rule_of, numbered, fixed}
use Rattle.steps.specs.Nodes.{node_of_lem, node, nodes_from, node_list, steps}
use Rattle.steps.specs.Facts.{same_fact, same_term, same_terms}
use Rattle.steps.specs.WellFormed.{steps_limit}
use Rattle.graph.specs.Graph.{Graph, graph_of_lem, place_of, edge_of, encode_graph}
use Rattle.checker.specs.Answer.{work_need}
use Rattle.checker.specs.Draw.{steps_under, graph_drawn, draw_outcome, draw_output}
use Rattle.checker.specs.Draw.Cases.{room, no_graph, output_written}
use Rattle.cases_proved.specs.Lines.{printed_protocol, printed_graph, printed_nodes, three_nodes}

-- ── what a case claims ──
-- these bytes, and their length, are what drawing gives of the steps
abbrev pub Draws : List ℕ → List ℕ → Type 0
Draws steps graph =
    (output : List ℕ) (work : ℕ) → work_need ≤ work → length graph ≤ length output
    → (draw_outcome printed_protocol steps (length output) work ≡ passed (length graph))
    × (draw_output printed_protocol steps output work ≡ splice output 0 graph)

abbrev pub Refuses : List ℕ → ℕ → ℕ → Type 0
Refuses steps n k = (output work : ℕ) → work_need ≤ work → draw_outcome printed_protocol steps output work ≡ refused n k

-- ── the steps ──
-- of the printed graph without its last node
abbrev pub three_steps : List ℕ
three_steps = 0x03 ∷ 0x00 ∷ 0x02 ∷ 0x07 ∷ 0x1F ∷ 0x02 ∷ 0x07 ∷ 0x01 ∷ 0x02 ∷ 0x07 ∷ []

-- the last node receives the one Out once more
abbrev pub received_again : List ℕ
received_again = 0x04 ∷ 0x00 ∷ 0x02 ∷ 0x07 ∷ 0x1F ∷ 0x02 ∷ 0x07 ∷ 0x01 ∷ 0x02 ∷ 0x07 ∷ 0x01 ∷ 0x02 ∷ 0x07 ∷ []

-- the second node makes the name of the first
abbrev pub made_again : List ℕ
made_again = 0x02 ∷ 0x00 ∷ 0x02 ∷ 0x07 ∷ 0x00 ∷ 0x02 ∷ 0x07 ∷ []

-- ── by computation ──
abbrev name : List Term
name = leaf fresh 7 ∷ []

abbrev first : Edge
first = edge_of (place_of 1 1) (place_of 2 1)

abbrev second : Edge
second = edge_of (place_of 2 1) (place_of 3 1)

abbrev four_drawn : Graph
four_drawn =
    graph_of_lem (node_of_lem 0 name ∷ node_of_lem 31 name ∷ node_of_lem 1 name ∷ node_of_lem 2 name ∷ []) (first ∷ second ∷ edge_of (place_of 3 1) (place_of 4 1) ∷ [])

abbrev three_drawn : Graph
three_drawn = graph_of_lem (node_of_lem 0 name ∷ node_of_lem 31 name ∷ node_of_lem 1 name ∷ []) (first ∷ second ∷ [])

abbrev Drawn : List ℕ → Ruling Graph → Type 0
Drawn steps r = graph_drawn printed_protocol steps ≡ r

computed :
    Drawn printed_nodes (passed four_drawn) × Drawn three_steps (passed three_drawn) × Drawn received_again (refused 14 4) × Drawn made_again (refused 9 2)
unfolding protocol rule layout facts fact own rule_term term term_in symbol_at arity tag_arities
    steps_under steps node_list nodes_from node rule_of numbered fixed same_fact same_terms same_term apply
    many counted below read_number read_in groups groups_in number_limit all_below
computed = (refl, refl, refl, refl)

encoded : (encode_graph four_drawn ≡ printed_graph) × (encode_graph three_drawn ≡ three_nodes)
unfolding groups groups_in
encoded = (refl, refl)

-- ── the cases ──
by_graph : (steps graph : List ℕ) (g : Graph) → length steps ≤ steps_limit → Drawn steps (passed g) → encode_graph g ≡ graph → Draws steps graph
by_graph steps graph g short d e output work long enough =
    let n : length (encode_graph g) ≡ length graph = ap length e in
    let o = room printed_protocol steps (length output) work long (omega arith) short g d (omega (arith, n)) in (
      o ∙ ap {B = Ruling ℕ} passed n,
      sym (output_written printed_protocol steps output work (length (encode_graph g)) g o d) ∙ ap (splice output 0) e,
    )

by_refusal : (steps : List ℕ) (n k : ℕ) → length steps ≤ steps_limit → Drawn steps (refused n k) → Refuses steps n k
by_refusal steps n k short d output work long = no_graph printed_protocol steps output work long (omega arith) short n k d

pub printed_drawn : Draws printed_nodes printed_graph
printed_drawn = by_graph printed_nodes printed_graph four_drawn (omega arith) computed.0 encoded.0

pub shorter_drawn : Draws three_steps three_nodes
shorter_drawn = by_graph three_steps three_nodes three_drawn (omega arith) computed.1 encoded.1

pub not_in_state : Refuses received_again 14 4
not_in_state = by_refusal received_again 14 4 (omega arith) computed.2

pub name_twice : Refuses made_again 9 2
name_twice = by_refusal made_again 9 2 (omega arith) computed.3
