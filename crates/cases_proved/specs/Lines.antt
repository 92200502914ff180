-- The cases of the line, over the outcome of checking: document 01's files by computation, whatever the work area that is long enough.
use Rattle.std.specs.Prelude.{ℕ, zero, suc, ◌≤◌, List, [], ◌∷◌, ◌++◌, Bool, true, false, ◌≡◌, length, ltb}
use Rattle.std.proofs.Math.Path.{refl}
use Rattle.std.proofs.Common.{ap, ◌∙◌, subst, arith, ltb-true}
use Rattle.lists.specs.Lists.{all_by}
use Rattle.lists.specs.Tests.{and_split}
use Rattle.lists.specs.Below.{all_below}
use Rattle.octets.specs.Head.{Bytes}
use Rattle.number.specs.Groups.{groups, groups_in, number_limit}
use Rattle.number.specs.Reading.{read_in, read_number, below, many, counted}
use Rattle.term.specs.Arity.{arity, tag_arities}
use Rattle.term.specs.Reader.{symbol_at, term, term_in}
use Rattle.message.specs.Canon.{apply}
use Rattle.rewriting.specs.Table.{Ruling, passed, refused, Ruled, and_then}
use Rattle.rewriting.specs.Table.Laws.{passed_good}
use Rattle.protocol.specs.Protocol.{Protocol, own_of, protocol_of, rule_term, fact, facts, layout, rule, own, protocol}
use Rattle.protocol.specs.Example as protocols
use Rattle.rules.specs.Numbered.{rule_of, numbered, fixed}
use Rattle.steps.specs.Nodes.{node, nodes_from, node_list}
use Rattle.steps.specs.Facts.{same_fact, same_term, same_terms}
use Rattle.graph.specs.Graph.{place, edge, edge_list, graph}
use Rattle.graph.specs.Causes.{graph_ruling}
use Rattle.property.specs.Layout.{term_at, sort_at, fact_at, timed_at, head_at, scoped_at, formula_at, property}
use Rattle.property.specs.Example as properties
use Rattle.trace.specs.Truth.{truth}
use Rattle.checker.specs.Answer.{work_need}
use Rattle.checker.specs.Files.{protocol_limit, protocol_ruling, protocol_rows}
use Rattle.checker.specs.Files.Laws.{IsFit, protocol_ruled}
use Rattle.checker.specs.Files.Fit.{FitFile, fit_passed, is_fit_file}
use Rattle.checker.specs.Check.{property_limit, graph_limit, Checked, under_protocol, files_ruling, check_outcome}
use Rattle.checker.specs.Check.Cases.{sized}

-- ── for crate octets: bytes by a test ──
abbrev pub are_bytes : List ℕ → Bool
are_bytes s = all_by (λ b. ltb b 256) s

pub bytes_of : (s : List ℕ) → are_bytes s ≡ true → Bytes s
bytes_of [] h i = omega arith
bytes_of (b ∷ s) h zero = ltb-true b 256 (and_split (ltb b 256) (are_bytes s) h).0
bytes_of (b ∷ s) h (suc i) = bytes_of s (and_split (ltb b 256) (are_bytes s) h).1 i

-- ── the line's words ──
-- "`attack` (false) or `run` (true), then nodes, nodes with an action, edges"
abbrev pub attack : ℕ → ℕ → ℕ → Ruling Checked
attack n a e = passed record { holds = false; nodes = n; active = a; edges = e }

abbrev pub run : ℕ → ℕ → ℕ → Ruling Checked
run n a e = passed record { holds = true; nodes = n; active = a; edges = e }

-- three files and what checking answers of them, whatever the work area that is long enough
abbrev pub Line : List ℕ → List ℕ → List ℕ → Ruling Checked → Type 0
Line protocol property graph r = (work : ℕ) → work_need ≤ work → check_outcome protocol property graph work ≡ r

-- ── the files ──
-- "protocol 00 01 01 00 01 01 01 01 00 00 00 01 04 00 00 01 02 00 00"
abbrev pub printed_protocol : List ℕ
printed_protocol = protocols.printed

-- "property 0C 02 00 03 04 00 00 01 0C 01 03 03 00 00 02 00"
abbrev pub printed_property : List ℕ
printed_property = properties.printed

-- "graph 04 00 02 07 1F 02 07 01 02 07 02 02 07 03 01 01 02 01 02 01 03 01 03 01 04 01"
abbrev pub printed_graph : List ℕ
printed_graph =
    0x04 ∷ 0x00 ∷ 0x02 ∷ 0x07 ∷ 0x1F ∷ 0x02 ∷ 0x07 ∷ 0x01 ∷ 0x02 ∷ 0x07 ∷ 0x02 ∷ 0x02 ∷ 0x07
    ∷ 0x03 ∷ 0x01 ∷ 0x01 ∷ 0x02 ∷ 0x01 ∷ 0x02 ∷ 0x01 ∷ 0x03 ∷ 0x01 ∷ 0x03 ∷ 0x01 ∷ 0x04 ∷ 0x01 ∷ []

-- its nodes
abbrev pub printed_nodes : List ℕ
printed_nodes = 0x04 ∷ 0x00 ∷ 0x02 ∷ 0x07 ∷ 0x1F ∷ 0x02 ∷ 0x07 ∷ 0x01 ∷ 0x02 ∷ 0x07 ∷ 0x02 ∷ 0x02 ∷ 0x07 ∷ []

-- "without its last edge": the count falls to 02 and the last four bytes go
abbrev pub without_last_edge : List ℕ
without_last_edge = printed_nodes ++ (0x02 ∷ 0x01 ∷ 0x01 ∷ 0x02 ∷ 0x01 ∷ 0x02 ∷ 0x01 ∷ 0x03 ∷ 0x01 ∷ [])

-- "graph 00 00 with property 00"
abbrev pub no_graph : List ℕ
no_graph = 0x00 ∷ 0x00 ∷ []

abbrev pub falsehood : List ℕ
falsehood = 0x00 ∷ []

-- "80 00"
abbrev pub not_shortest : List ℕ
not_shortest = 0x80 ∷ 0x00 ∷ []

-- ── beside the printed graph ──
-- without its last node and the edge into it
abbrev pub three_nodes : List ℕ
three_nodes =
    0x03 ∷ 0x00 ∷ 0x02 ∷ 0x07 ∷ 0x1F ∷ 0x02 ∷ 0x07 ∷ 0x01 ∷ 0x02 ∷ 0x07
    ∷ 0x02 ∷ 0x01 ∷ 0x01 ∷ 0x02 ∷ 0x01 ∷ 0x02 ∷ 0x01 ∷ 0x03 ∷ 0x01 ∷ []

-- the last edge from a conclusion that is another fact
abbrev pub facts_differ : List ℕ
facts_differ = printed_nodes ++ (0x03 ∷ 0x01 ∷ 0x01 ∷ 0x02 ∷ 0x01 ∷ 0x02 ∷ 0x01 ∷ 0x03 ∷ 0x01 ∷ 0x02 ∷ 0x01 ∷ 0x04 ∷ 0x01 ∷ [])

-- the last edge from its own node
abbrev pub not_earlier : List ℕ
not_earlier = printed_nodes ++ (0x03 ∷ 0x01 ∷ 0x01 ∷ 0x02 ∷ 0x01 ∷ 0x02 ∷ 0x01 ∷ 0x03 ∷ 0x01 ∷ 0x04 ∷ 0x01 ∷ 0x04 ∷ 0x01 ∷ [])

-- the last node receives the one Out once more
abbrev pub received_twice : List ℕ
received_twice =
    0x04 ∷ 0x00 ∷ 0x02 ∷ 0x07 ∷ 0x1F ∷ 0x02 ∷ 0x07 ∷ 0x01 ∷ 0x02 ∷ 0x07 ∷ 0x01 ∷ 0x02 ∷ 0x07
    ∷ 0x03 ∷ 0x01 ∷ 0x01 ∷ 0x02 ∷ 0x01 ∷ 0x02 ∷ 0x01 ∷ 0x03 ∷ 0x01 ∷ 0x02 ∷ 0x01 ∷ 0x04 ∷ 0x01 ∷ []

-- ── by computation ──
-- under the printed protocol and property
abbrev Printed : List ℕ → Ruling Checked → Type 0
Printed graph r = files_ruling printed_protocol printed_property graph ≡ r

computed :
    Printed printed_graph (attack 4 2 3) × Printed without_last_edge (refused 12 4) × Printed three_nodes (run 3 1 2)
    × Printed not_earlier (refused 10 3) × Printed facts_differ (refused 11 3) × Printed received_twice (refused 13 2)
unfolding protocol rule layout facts fact own rule_term term term_in symbol_at arity tag_arities
    property formula_at scoped_at head_at timed_at fact_at sort_at term_at
    graph_ruling graph edge_list edge place node_list nodes_from node rule_of numbered fixed
    truth same_fact same_terms same_term apply
    many counted below read_number read_in groups groups_in number_limit all_below
computed = (refl, refl, refl, refl, refl, refl)

-- the protocol itself, and 80 00 in its place
abbrev pub its_protocol : Protocol
its_protocol = protocol_of [] (own_of 1 0 ∷ []) (protocols.its_rule ∷ [])

computed_protocol : (protocol_ruling printed_protocol ≡ passed its_protocol) × (files_ruling not_shortest falsehood no_graph ≡ refused 3 1)
unfolding protocol rule layout facts fact own rule_term term term_in symbol_at arity tag_arities many counted below read_number read_in number_limit all_below
computed_protocol = (refl, refl)

-- under any protocol
module _ (p : Protocol) where
  under_any :
      (under_protocol p falsehood no_graph ≡ attack 0 0 0)
      × (under_protocol p not_shortest no_graph ≡ refused 3 2)
      × (under_protocol p falsehood not_shortest ≡ refused 3 3)
  unfolding property formula_at graph_ruling graph edge_list node_list nodes_from truth many counted below read_number read_in
  under_any = (refl, refl, refl)

-- ── the cases, whatever the work area ──
-- within their byte limits the files decide
pub by_files :
    (protocol property graph : List ℕ) (r : Ruling Checked) → length protocol ≤ protocol_limit → length property ≤ property_limit
    → length graph ≤ graph_limit → files_ruling protocol property graph ≡ r → Line protocol property graph r
by_files protocol property graph r p q g e work long = sized protocol property graph work long p q g ∙ e

printed_files : (graph : List ℕ) (r : Ruling Checked) → length graph ≤ graph_limit → Printed graph r → Line printed_protocol printed_property graph r
printed_files graph r g e = by_files printed_protocol printed_property graph r (omega arith) (omega arith) g e

pub printed_line : Line printed_protocol printed_property printed_graph (attack 4 2 3)
printed_line = printed_files printed_graph (attack 4 2 3) (omega arith) computed.0

pub edge_missing : Line printed_protocol printed_property without_last_edge (refused 12 4)
edge_missing = printed_files without_last_edge (refused 12 4) (omega arith) computed.1

pub run_line : Line printed_protocol printed_property three_nodes (run 3 1 2)
run_line = printed_files three_nodes (run 3 1 2) (omega arith) computed.2

pub source_late : Line printed_protocol printed_property not_earlier (refused 10 3)
source_late = printed_files not_earlier (refused 10 3) (omega arith) computed.3

pub facts_refused : Line printed_protocol printed_property facts_differ (refused 11 3)
facts_refused = printed_files facts_differ (refused 11 3) (omega arith) computed.4

pub used_twice : Line printed_protocol printed_property received_twice (refused 13 2)
used_twice = printed_files received_twice (refused 13 2) (omega arith) computed.5

pub protocol_refused : Line not_shortest falsehood no_graph (refused 3 1)
protocol_refused = by_files not_shortest falsehood no_graph (refused 3 1) (omega arith) (omega arith) (omega arith) computed_protocol.1

-- the printed protocol is fit
pub printed_bytes : Bytes printed_protocol
printed_bytes = bytes_of printed_protocol refl

pub printed_fit : FitFile printed_protocol its_protocol
printed_fit =
    is_fit_file printed_protocol printed_bytes its_protocol (omega arith) (passed_good (IsFit printed_protocol) (protocol_rows printed_protocol) its_protocol
    (subst (λ (r : Ruling Protocol). Ruled (protocol_rows printed_protocol) (IsFit printed_protocol) r) computed_protocol.0
    (protocol_ruled printed_protocol printed_bytes)))

-- under every fit protocol
module _ (protocol : List ℕ) (bytes : Bytes protocol) (p : Protocol) (fit : FitFile protocol p) where
  by_fit :
      (property graph : List ℕ) (r : Ruling Checked) → length property ≤ property_limit → length graph ≤ graph_limit
      → under_protocol p property graph ≡ r → Line protocol property graph r
  by_fit property graph r q g e =
      by_files protocol property graph r fit.short q g
      (ap (λ (o : Ruling Protocol). and_then o (λ k. under_protocol k property graph)) (fit_passed protocol bytes p fit) ∙ e)

  pub empty_line : Line protocol falsehood no_graph (attack 0 0 0)
  empty_line = by_fit falsehood no_graph (attack 0 0 0) (omega arith) (omega arith) (under_any p).0

  pub property_refused : Line protocol not_shortest no_graph (refused 3 2)
  property_refused = by_fit not_shortest no_graph (refused 3 2) (omega arith) (omega arith) (under_any p).1

  pub graph_refused : Line protocol falsehood not_shortest (refused 3 3)
  graph_refused = by_fit falsehood not_shortest (refused 3 3) (omega arith) (omega arith) (under_any p).2
