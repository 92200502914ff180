-- Checking case by case, as the code goes: the sizes, and what is left in the work area.
use Rattle.std.specs.Prelude.{ℕ, ◌≤◌, ◌<◌, ◌≡◌, length, replicate}
use mathlib.Core.List.{List, [], ◌∷◌}
use Rattle.std.specs.Prelude.{Option}
use Rattle.std.proofs.Common.{ap, ◌∙◌, arith}
use Rattle.std.proofs.Math.Path.{sym, subst}
use Rattle.number.specs.Reading.{Read, got, fault}
use Rattle.lists.specs.Lists.{first_bad}
use Rattle.rewriting.specs.Table.{Ruling, passed, refused, Pass, or_refuse}
use Rattle.rewriting.specs.Writer.{first_name_twice}
use Rattle.rewriting.specs.Checker.{ends_ok, facts_ok, premises_ok, conclusions_ok}
use Rattle.rewriting.specs.Table.Passes.{less_pass}
use Rattle.protocol.specs.Protocol.{Protocol, fact_arities}
use Rattle.steps.specs.Nodes.{Reading, read, broken, no_rule}
use Rattle.steps.specs.Values.Tests.{node_values_ok, node_terms_ok}
use Rattle.steps.specs.Runs.{protocol_facts, rewrittens}
use Rattle.steps.specs.Causes.{graph_item, read_ruling}
use Rattle.graph.specs.Graph.{Graph, graph}
use Rattle.graph.specs.Causes.{ruling, graph_ruling}
use Rattle.property.specs.Formula.{Formula}
use Rattle.property.specs.Layout as layouts
use Rattle.property.specs.Causes.{property_item, fit_pass, property_ruling}
use Rattle.checker.specs.Answer.{work_need, work_after}
use Rattle.checker.specs.Passing.{less_yes, less_no}
use Rattle.checker.specs.Late.{Late, late_then, late_refuse, late_pass, late_work, late_protocol}
use Rattle.checker.specs.Files.{protocol_limit, protocol_item, protocol_ruling}
use Rattle.checker.specs.Check.{property_limit, graph_limit, Checked, checked, property_under, graph_under, under_protocol, files_ruling}
use Rattle.checker.specs.Check.{check_outcome, check_work}

module _ (protocol property graph : List ℕ) (work : ℕ) where
  abbrev Outcome : Ruling Checked
  Outcome = check_outcome protocol property graph work

  abbrev Files : Ruling Checked
  Files = files_ruling protocol property graph

  abbrev on_graph : List Pass
  on_graph = less_pass 2 graph_item graph_limit (length graph) ∷ []

  abbrev on_property : List Pass
  on_property = less_pass 2 property_item property_limit (length property) ∷ on_graph

  abbrev on_protocol : List Pass
  on_protocol = less_pass 2 protocol_item protocol_limit (length protocol) ∷ on_property

  pub work_short : work < work_need → Outcome ≡ refused 1 0
  unfolding check_outcome
  work_short h = less_yes 1 0 work work_need on_protocol Files h

  module _ (long : work_need ≤ work) where
    pub protocol_over : protocol_limit < length protocol → Outcome ≡ refused 2 protocol_item
    unfolding check_outcome
    protocol_over h = less_no 1 0 work work_need on_protocol Files long ∙ less_yes 2 protocol_item protocol_limit (length protocol) on_property Files h

    module _ (p : length protocol ≤ protocol_limit) where
      pub property_over : property_limit < length property → Outcome ≡ refused 2 property_item
      unfolding check_outcome
      property_over h =
          less_no 1 0 work work_need on_protocol Files long
          ∙ less_no 2 protocol_item protocol_limit (length protocol) on_property Files p
          ∙ less_yes 2 property_item property_limit (length property) on_graph Files h

      module _ (q : length property ≤ property_limit) where
        pub graph_over : graph_limit < length graph → Outcome ≡ refused 2 graph_item
        unfolding check_outcome
        graph_over h =
            less_no 1 0 work work_need on_protocol Files long
            ∙ less_no 2 protocol_item protocol_limit (length protocol) on_property Files p
            ∙ less_no 2 property_item property_limit (length property) on_graph Files q
            ∙ less_yes 2 graph_item graph_limit (length graph) [] Files h

        -- then the files
        pub sized : length graph ≤ graph_limit → Outcome ≡ Files
        unfolding check_outcome
        sized h =
            less_no 1 0 work work_need on_protocol Files long
            ∙ less_no 2 protocol_item protocol_limit (length protocol) on_property Files p
            ∙ less_no 2 property_item property_limit (length property) on_graph Files q
            ∙ less_no 2 graph_item graph_limit (length graph) [] Files h

-- ── lent memory ──
-- refusal 1 leaves the work area
pub work_kept : (protocol property graph work : List ℕ) → length work < work_need → work ≡ check_work protocol property graph work
unfolding check_work
work_kept protocol property graph work h =
    sym (ap (λ (r : Ruling Checked). work_after r work) (work_short protocol property graph (length work) h))

-- every other answer leaves zeros
late_reading : (r : Reading Graph) → Late (read_ruling graph_item r)
late_reading (read g e) = tt
late_reading broken = λ e. omega arith
late_reading (no_rule k) = λ e. omega arith

-- 7 to 13
late_passes :
    (values sizes names ends facts premises conclusions : Option ℕ) (g : Graph)
    → Late (or_refuse 7 values (or_refuse 8 sizes (or_refuse 9 names (or_refuse 10 ends (or_refuse 11 facts (or_refuse 12 premises (or_refuse 13 conclusions
    (passed g))))))))
late_passes values sizes names ends facts premises conclusions g =
    let r₁₃ : Ruling Graph = or_refuse 13 conclusions (passed g) in
    let r₁₂ : Ruling Graph = or_refuse 12 premises r₁₃ in
    let r₁₁ : Ruling Graph = or_refuse 11 facts r₁₂ in
    let r₁₀ : Ruling Graph = or_refuse 10 ends r₁₁ in
    let r₉ : Ruling Graph = or_refuse 9 names r₁₀ in
    let r₈ : Ruling Graph = or_refuse 8 sizes r₉ in
    late_refuse 7 values r₈ (λ e. omega arith) (late_refuse 8 sizes r₉ (λ e. omega arith) (late_refuse 9 names r₁₀ (λ e. omega arith)
    (late_refuse 10 ends r₁₁ (λ e. omega arith) (late_refuse 11 facts r₁₂ (λ e. omega arith) (late_refuse 12 premises r₁₃ (λ e. omega arith)
    (late_refuse 13 conclusions (passed g) (λ e. omega arith) tt))))))

late_graph : (p : Protocol) (file : List ℕ) → Late (graph_ruling p file)
unfolding graph_ruling
late_graph p file =
    late_then (read_ruling graph_item (graph file p)) (ruling p) (late_reading (graph file p)) (λ g.
    let F = protocol_facts p in
    let xs = rewrittens p g.nodes in
    late_passes (first_bad (λ k x. node_values_ok p x) 1 g.nodes) (first_bad (λ k x. node_terms_ok p x) 1 g.nodes) (first_name_twice xs)
    (first_bad (λ k e. ends_ok F xs e) 1 g.edges) (first_bad (λ k e. facts_ok F xs e) 1 g.edges) (first_bad (premises_ok F g.edges) 1 xs)
    (first_bad (conclusions_ok F g.edges) 1 xs) g)

late_property : (r : Read Formula) → Late (property_ruling r)
late_property (got f e) = late_pass (fit_pass f) [] (passed f) (λ e. omega arith) tt
late_property fault = λ e. omega arith

module _ (protocol property graph : List ℕ) where
  late_files : Late (files_ruling protocol property graph)
  late_files =
      late_then (protocol_ruling protocol) (λ p. under_protocol p property graph) (late_protocol protocol) (λ p.
      late_then (property_under p property) (λ f. graph_under p f graph) (late_property (layouts.property property (fact_arities p.symbols))) (λ f.
      late_then (graph_ruling p graph) (λ g. passed (checked p f g)) (late_graph p graph) (λ g. tt)))

  late_call : (work : ℕ) → work_need ≤ work → Late (check_outcome protocol property graph work)
  unfolding check_outcome
  late_call work l =
      let files = files_ruling protocol property graph in
      let g = less_pass 2 graph_item graph_limit (length graph) in
      let q = less_pass 2 property_item property_limit (length property) in
      let p = less_pass 2 protocol_item protocol_limit (length protocol) in
      subst Late (sym (less_no 1 0 work work_need (p ∷ q ∷ g ∷ []) files l))
      (late_pass p (q ∷ g ∷ []) files (λ e. omega arith) (late_pass q (g ∷ []) files (λ e. omega arith)
      (late_pass g [] files (λ e. omega arith) late_files)))

  pub work_cleared : (work : List ℕ) → work_need ≤ length work → replicate (length work) 0 ≡ check_work protocol property graph work
  unfolding check_work
  work_cleared work l = sym (late_work (check_outcome protocol property graph (length work)) work (late_call (length work) l))
