-- "Checking returns the ruling and the line's three counts."
use Rattle.std.specs.Prelude.{ℕ, ◌+◌, ◌*◌, ◌^◌, List, [], ◌∷◌, ◌++◌, Bool, true, false, ◌≡◌, length, Result, Ok, Err}
use Rattle.std.proofs.Common.{ap}
use Rattle.lists.specs.Lists.{count_by}
use Rattle.rewriting.specs.Table.{Ruling, passed, refused, Row, Pass, ruling_then, rows_then, and_then, rows_after}
use Rattle.rewriting.specs.Table.Passes.{less_pass}
use Rattle.protocol.specs.Protocol.{Protocol, fact_arities}
use Rattle.steps.specs.Causes.{graph_item}
use Rattle.graph.specs.Graph.{Graph}
use Rattle.graph.specs.Causes.{graph_file_rows, graph_ruling}
use Rattle.property.specs.Formula.{Formula}
use Rattle.property.specs.Layout as layouts
use Rattle.property.specs.Causes.{property_item, property_rows, property_ruling}
use Rattle.trace.specs.Active.{is_active}
use Rattle.trace.specs.Truth.{truth}
use Rattle.checker.specs.declared.Counts.{Counts}
use Rattle.checker.specs.declared.Ruling as declared
use Rattle.checker.specs.declared.Ruling.TheVariants as rl
use Rattle.checker.specs.declared.Refusal.{Refusal}
use Rattle.checker.specs.Answer.{refusal, work_need, work_after}
use Rattle.checker.specs.Files.{protocol_limit, protocol_item, protocol_ruling, protocol_rows}
-- a fit property file, and that the rows say it
pub mod Fit
-- case by case, as the code goes
pub mod Cases
-- its outcome is what the table says
pub mod Laws
-- its figures are small
pub mod Bounds
-- what the functions inside it are asked and promise
pub mod Contracts
-- from what they find to what they promise
pub mod Inside
-- its packed answer comes apart into the outcome
pub mod Packed

-- "Property (1,024 bytes)", "Graph (61,440 bytes)"
abbrev pub property_limit : ℕ
property_limit = 1024

abbrev pub graph_limit : ℕ
graph_limit = 61440

-- "`attack` (false) or `run` (true), then nodes, nodes with an action, edges"
pub record Checked : Type 0 where
  pub holds : Bool
  pub nodes : ℕ
  pub active : ℕ
  pub edges : ℕ

abbrev pub checked : Protocol → Formula → Graph → Checked
checked p f g = record {
  holds = truth p g.nodes f;
  nodes = length g.nodes;
  active = count_by (is_active p) g.nodes;
  edges = length g.edges;
}

-- ── the answers' numbers and values ──
abbrev counted : Bool → Counts → Checked
counted b c = record { holds = b; nodes = c.nodes; active = c.active; edges = c.edges }

-- what checking answers: a ruling, or a refusal
abbrev pub Answer : Type 0
Answer = Result declared.Ruling Refusal

abbrev pub ruled : Answer → Ruling Checked
ruled (Ok (rl.Attack c)) = passed (counted false c)
ruled (Ok (rl.Run c)) = passed (counted true c)
ruled (Err r) = refused r.number r.item

-- a refusal that was made is that of the table
pub ruled_refused : {r : Refusal} {n k : ℕ} → r ≡ refusal n k → ruled (Err r) ≡ refused n k
ruled_refused e = ap (λ (r : Refusal). ruled (Err r)) e

-- ── the C function's answer ──
-- bits 56 up: 0 refused, 1 attack, 2 run; attack and run: bits 32 to 47 nodes, 16 to 31 nodes with an action, 0 to 15 edges; refused: bits 32
-- to 39 the number, bits 0 to 31 the item
abbrev pub kind_of : Bool → ℕ
kind_of false = 1
kind_of true = 2

abbrev pub packed_ruling : Ruling Checked → ℕ
packed_ruling (passed c) = kind_of c.holds * 2 ^ 56 + c.nodes * 2 ^ 32 + c.active * 2 ^ 16 + c.edges
packed_ruling (refused n k) = n * 2 ^ 32 + k

-- ── the files, each under what those before it hold ──
-- "3 and 5 for the property"
abbrev pub property_under : Protocol → List ℕ → Ruling Formula
property_under p property = property_ruling (layouts.property property (fact_arities p.symbols))

abbrev pub property_under_rows : Protocol → List ℕ → List Row
property_under_rows p property = property_rows (layouts.property property (fact_arities p.symbols))

-- "then the graph front to back for 3 and 6, then 7 to 13"; one that passes is judged
abbrev pub graph_under : Protocol → Formula → List ℕ → Ruling Checked
graph_under p f graph = and_then (graph_ruling p graph) (λ g. passed (checked p f g))

-- "3 and 4 for the protocol, 3 and 5 for the property, then the graph"
abbrev pub under_protocol : Protocol → List ℕ → List ℕ → Ruling Checked
under_protocol p property graph = and_then (property_under p property) (λ f. graph_under p f graph)

abbrev pub files_ruling : List ℕ → List ℕ → List ℕ → Ruling Checked
files_ruling protocol property graph = and_then (protocol_ruling protocol) (λ p. under_protocol p property graph)

-- 1, and "2 for all files in order"
abbrev pub check_sizes : List ℕ → List ℕ → List ℕ → ℕ → List Pass
check_sizes protocol property graph work =
    less_pass 1 0 work work_need
    ∷ less_pass 2 protocol_item protocol_limit (length protocol)
    ∷ less_pass 2 property_item property_limit (length property)
    ∷ less_pass 2 graph_item graph_limit (length graph)
    ∷ []

-- ── the call ──
-- "Checking: 1, 2 for all files in order, 3 and 4 for the protocol, 3 and 5 for the property, then the graph front to back for 3 and 6, then
-- 7 to 13."
unfoldable pub check_outcome : List ℕ → List ℕ → List ℕ → ℕ → Ruling Checked
check_outcome protocol property graph work =
    ruling_then (check_sizes protocol property graph work) (files_ruling protocol property graph)

-- the same as rows of the table
abbrev pub under_rows : Protocol → List ℕ → List ℕ → List Row
under_rows p property graph = property_under_rows p property ++ rows_after (property_under p property) (λ f. graph_file_rows p graph)

abbrev pub files_rows : List ℕ → List ℕ → List ℕ → List Row
files_rows protocol property graph = protocol_rows protocol ++ rows_after (protocol_ruling protocol) (λ p. under_rows p property graph)

abbrev pub check_rows : List ℕ → List ℕ → List ℕ → ℕ → List Row
check_rows protocol property graph work = rows_then (check_sizes protocol property graph work) (files_rows protocol property graph)

-- ── lent memory ──
unfoldable pub check_work : List ℕ → List ℕ → List ℕ → List ℕ → List ℕ
check_work protocol property graph work = work_after (check_outcome protocol property graph (length work)) work
