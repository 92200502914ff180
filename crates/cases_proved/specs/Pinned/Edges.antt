-- "count of edges (4,096)": as many are read, by the law of reading, since to compute that is long; what is read is judged by computation.
use Rattle.std.specs.Prelude.{ℕ, zero, suc, ◌<◌, ◌≤◌, List, [], ◌∷◌, ◌≡◌, refl, length, replicate}
use Rattle.std.proofs.Common.{ap, ◌∙◌, arith, ltb-true}
use Rattle.std.proofs.lemmas.List.{length-replicate}
use Rattle.lists.specs.All.{All}
use Rattle.lists.specs.Below.{all_below}
use Rattle.number.specs.Groups.{groups, groups_in, number_limit}
use Rattle.number.specs.Reading.{read_in, read_number, below, many, counted}
use Rattle.term.specs.Arity.{arity, tag_arities}
use Rattle.term.specs.Reader.{symbol_at, term, term_in}
use Rattle.message.specs.Canon.{apply}
use Rattle.rewriting.specs.Table.{Ruling, passed, refused, and_then}
use Rattle.rewriting.specs.Graph.{Edge}
use Rattle.protocol.specs.Protocol.{Fact, Protocol, fact_of, rule_of_lem, own_of, protocol_of, rule_term, fact, facts, layout, rule, own, protocol}
use Rattle.rules.specs.Numbered.{rule_of, numbered}
use Rattle.steps.specs.Nodes.{Reading, read, node_of_lem, NodesWithin}
use Rattle.steps.specs.Causes.{graph_item, read_ruling}
use Rattle.steps.specs.Facts.{same_fact, same_term, same_terms}
use Rattle.graph.specs.Graph.{Graph, graph_of_lem, place_of, edge_of, EdgeBelow, GraphWithin, encode_graph, graph}
use Rattle.graph.proofs.Graph.Exact.{graph_back}
use Rattle.graph.specs.Causes.{ruling, graph_ruling}
use Rattle.property.specs.Formula.{absurdity}
use Rattle.property.specs.Layout.{formula_at, property}
use Rattle.checker.specs.Files.{protocol_ruling}
use Rattle.checker.specs.Check.{checked, property_under, under_protocol, files_ruling}
use Rattle.cases_proved.specs.Lines.{bytes_of, by_files, falsehood}
use Rattle.cases_proved.specs.Pinned.Row.{Row, checks, Holds, own_fact, times}

-- nodes of the rules 31 and 32, and one edge 4,096 times
abbrev file : List ℕ
file = 0x02 ∷ 0x1F ∷ 0x20 ∷ 0x80 ∷ 0x20 ∷ times 4096 (0x01 ∷ 0x01 ∷ 0x02 ∷ 0x01 ∷ [])

-- "premise without exactly one edge", and no layout fault
abbrev pub rows : List Row
rows = checks (own_fact 0) falsehood file (refused 12 2) ∷ []

-- ── what the files hold ──
abbrev its_fact : List Fact
its_fact = fact_of 4 [] ∷ []

abbrev its_protocol : Protocol
its_protocol =
    protocol_of [] (own_of 0 0 ∷ []) (rule_of_lem [] ([] ∷ [] ∷ its_fact ∷ []) ∷ rule_of_lem [] (its_fact ∷ [] ∷ [] ∷ []) ∷ [])

abbrev joins : Edge
joins = edge_of (place_of 1 1) (place_of 2 1)

abbrev its_graph : Graph
its_graph = graph_of_lem (node_of_lem 31 [] ∷ node_of_lem 32 [] ∷ []) (replicate 4096 joins)

is_protocol : (protocol_ruling (own_fact 0) ≡ passed its_protocol) × (property_under its_protocol falsehood ≡ passed absurdity)
unfolding protocol rule layout facts fact own rule_term term term_in symbol_at arity tag_arities many counted below read_number read_in number_limit all_below
    property formula_at
is_protocol = (refl, refl)

is_graph : file ≡ encode_graph its_graph
unfolding groups groups_in
is_graph = refl

-- ── they are within the limits ──
each_edge : (n : ℕ) → All (EdgeBelow number_limit) (replicate n joins)
unfolding number_limit
each_edge zero = tt
each_edge (suc n) = (((omega arith, omega arith), (omega arith, omega arith)), each_edge n)

within : GraphWithin its_protocol its_graph
unfolding number_limit rule_of numbered
within =
    let m : length (replicate 4096 joins) ≤ 4096 = omega (arith, length-replicate {A = Edge} 4096 joins) in
    let nodes : NodesWithin its_protocol (node_of_lem 31 [] ∷ node_of_lem 32 [] ∷ []) =
    record {
      few = omega arith;
      each = (
        record { is = rule_of_lem [] ([] ∷ [] ∷ its_fact ∷ []); known = refl; range = omega arith; takes = refl; each = tt },
        (record { is = rule_of_lem [] (its_fact ∷ [] ∷ [] ∷ []); known = refl; range = omega arith; takes = refl; each = tt }, tt),
      );
    } in
    (nodes, (m, each_edge 4096))

is_read : graph file its_protocol ≡ read its_graph (length file)
is_read = graph_back file (bytes_of file refl) its_protocol its_graph within is_graph

-- ── and judged ──
judged : ruling its_protocol its_graph ≡ refused 12 2
unfolding rule_of numbered same_fact same_terms same_term apply groups groups_in number_limit
judged = refl

by_parts : files_ruling (own_fact 0) falsehood file ≡ refused 12 2
unfolding graph_ruling
by_parts =
    ap (λ (r : Ruling Protocol). and_then r (λ q. under_protocol q falsehood file)) is_protocol.0
    ∙ ap (λ r. and_then r (λ f. and_then (graph_ruling its_protocol file) (λ g. passed (checked its_protocol f g)))) is_protocol.1
    ∙ ap (λ (r : Reading Graph). and_then (and_then (read_ruling graph_item r) (ruling its_protocol)) (λ g. passed (checked its_protocol absurdity g))) is_read
    ∙ ap (λ (r : Ruling Graph). and_then r (λ g. passed (checked its_protocol absurdity g))) judged

pub rows_hold : All Holds rows
rows_hold =
    let short : length file < 61441 = ltb-true (length file) 61441 refl in
    (by_files (own_fact 0) falsehood file (refused 12 2) (omega arith) (omega arith) (omega arith) by_parts, tt)
