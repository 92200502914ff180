-- The work area is all zeros after every answer of drawing but refusal 1.
use Rattle.std.specs.Prelude.{ℕ, ◌≤◌, ◌⊎◌, ◌≡◌, refl, length, replicate}
use mathlib.Core.List.{List, [], ◌∷◌}
use Rattle.std.proofs.Common.{inl, inr, arith}
use Rattle.std.specs.Prelude.{Option}
use Rattle.std.proofs.Math.Path.{sym, subst}
use Rattle.lists.specs.Lists.{first_bad}
use Rattle.rewriting.specs.Table.{Ruling, passed, refused, Says, Ruled, and_then, or_refuse}
use Rattle.rewriting.specs.Table.Laws.{ruled_says}
use Rattle.rewriting.specs.Table.Passes.{less_pass, need_pass}
use Rattle.rewriting.proofs.Whole.{machine_rows}
use Rattle.rewriting.specs.Graph.{Edge}
use Rattle.protocol.specs.Protocol.{Protocol}
use Rattle.steps.specs.Nodes.{Node, Reading, read, broken, no_rule}
use Rattle.steps.specs.Nodes as nodes
use Rattle.steps.specs.Values.Tests.{node_values_ok, node_terms_ok}
use Rattle.steps.specs.Runs.{protocol_facts, rewrittens}
use Rattle.steps.specs.Runs.Theorems.{drawn, EarliestTested, draw_table}
use Rattle.steps.specs.Causes.{steps_item, read_ruling}
use Rattle.steps.specs.WellFormed.{steps_limit}
use Rattle.graph.specs.Graph.{graph_of_lem}
use Rattle.checker.specs.Answer.{work_need}
use Rattle.checker.specs.Passing.{less_no}
use Rattle.checker.specs.Late.{Late, late_then, late_refuse, late_pass, late_work, late_protocol}
use Rattle.checker.specs.Files.{protocol_limit, protocol_item, protocol_ruling}
use Rattle.checker.specs.Draw.{graph_of, nodes_under, steps_under, graph_drawn, need_of, room_of, draw_outcome, draw_work}

-- what the edges are refused with, "9, 14"
pub nine_or_fourteen : (p : Protocol) (xs : List Node) (n k : ℕ) → drawn p xs ≡ refused n k → (n ≡ 9) ⊎ (n ≡ 14)
nine_or_fourteen p xs n k e =
    let rows = machine_rows (protocol_facts p) (rewrittens p xs) in
    of_rows (ruled_says (EarliestTested p xs) rows n k (subst (Ruled rows (EarliestTested p xs)) e (draw_table p xs)))
  where
    of_rows : Says (machine_rows (protocol_facts p) (rewrittens p xs)) n k → (n ≡ 9) ⊎ (n ≡ 14)
    of_rows (inl (i, l)) = inl i
    of_rows (inr (inl (i, l))) = inr i
    of_rows (inr (inr h)) = absurd h

late_edges : (p : Protocol) (xs : List Node) → Late (drawn p xs)
late_edges p xs = go (drawn p xs) refl
  where
    neither : (n : ℕ) → (n ≡ 9) ⊎ (n ≡ 14) → n ≡ 1 → ⊥
    neither n (inl i) h = omega arith
    neither n (inr i) h = omega arith

    go : (r : Ruling (List Edge)) → drawn p xs ≡ r → Late r
    go (passed es) e = tt
    go (refused n k) e = neither n (nine_or_fourteen p xs n k e)

late_nodes : (p : Protocol) (xs : List Node) → Late (nodes_under p xs)
late_nodes p xs =
    let values : Option ℕ = first_bad (λ k x. node_values_ok p x) 1 xs in
    let sizes : Option ℕ = first_bad (λ k x. node_terms_ok p x) 1 xs in
    late_refuse 7 values (or_refuse 8 sizes (graph_of p xs)) (λ e. omega arith)
    (late_refuse 8 sizes (graph_of p xs) (λ e. omega arith)
    (late_then (drawn p xs) (λ es. passed (graph_of_lem xs es)) (late_edges p xs) (λ es. tt)))

late_reading : (r : Reading (List Node)) → Late (read_ruling steps_item r)
late_reading (read xs e) = tt
late_reading broken = λ e. omega arith
late_reading (no_rule k) = λ e. omega arith

late_steps : (p : Protocol) (steps : List ℕ) → Late (steps_under p steps)
unfolding steps_under
late_steps p steps = late_then (read_ruling steps_item (nodes.steps p steps)) (nodes_under p) (late_reading (nodes.steps p steps)) (late_nodes p)

module _ (protocol steps : List ℕ) (output : ℕ) where
  late_files : Late (and_then (graph_drawn protocol steps) (room_of output))
  late_files =
      late_then (graph_drawn protocol steps) (room_of output)
      (late_then (protocol_ruling protocol) (λ p. steps_under p steps) (late_protocol protocol) (λ p. late_steps p steps))
      (λ g. late_pass (need_pass 15 output (need_of g)) [] (passed (need_of g)) (λ e. omega arith) tt)

  late_call : (work : ℕ) → work_need ≤ work → Late (draw_outcome protocol steps output work)
  unfolding draw_outcome
  late_call work l =
      let files = and_then (graph_drawn protocol steps) (room_of output) in
      let p = less_pass 2 protocol_item protocol_limit (length protocol) in
      let s = less_pass 2 steps_item steps_limit (length steps) in
      subst Late (sym (less_no 1 0 work work_need (p ∷ s ∷ []) files l))
      (late_pass p (s ∷ []) files (λ e. omega arith) (late_pass s [] files (λ e. omega arith) late_files))

  pub work_cleared : (work : List ℕ) → work_need ≤ length work → replicate (length work) 0 ≡ draw_work protocol steps output work
  unfolding draw_work
  work_cleared work l = sym (late_work (draw_outcome protocol steps output (length work)) work (late_call (length work) l))
