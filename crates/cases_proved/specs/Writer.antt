-- "Shut out": what a writer that answers as defined cannot be, from the cases of drawing.
use Rattle.std.specs.Prelude.{ℕ, List, ◌++◌, true, ◌≡◌, refl, length, replicate}
use Rattle.std.proofs.Common.{sym, ◌∙◌, arith}
use Rattle.lists.specs.Choice.{clash}
use Rattle.octets.specs.Head.{Bytes}
use Rattle.octets.specs.Splice.{splice}
use Rattle.rewriting.specs.Table.{Ruling, passed, refused}
use Rattle.rewriting.specs.Table.Laws.{refused_passed}
use Rattle.checker.specs.Answer.{work_need}
use Rattle.checker.specs.Draw.{draw_outcome, draw_output}
use Rattle.cases_proved.specs.Lines.{are_bytes, bytes_of, printed_protocol, printed_graph, printed_nodes, three_nodes, printed_bytes}
use Rattle.cases_proved.specs.Drawings.{three_steps, received_again, made_again, printed_drawn, shorter_drawn, not_in_state, name_twice}

-- "Drawing reads protocol and steps, no property, and returns the length written; its graph starts the output"
pub record Lists : Type 0 where
  pub protocol : List ℕ
  pub steps : List ℕ
  pub output : List ℕ
  pub protocol_bytes : Bytes protocol
  pub steps_bytes : Bytes steps
  pub output_bytes : Bytes output

-- steps under the printed protocol, and as much room as the printed graph needs
abbrev room : List ℕ
room = replicate (length printed_graph) 0

abbrev with_steps : (steps : List ℕ) → are_bytes steps ≡ true → Lists
with_steps steps b = record {
  protocol = printed_protocol;
  steps = steps;
  output = room;
  protocol_bytes = printed_bytes;
  steps_bytes = bytes_of steps b;
  output_bytes = bytes_of room refl;
}

-- answers, and what the output holds afterwards, with a work area of a length, as they are defined
module _
    (draw : Lists → ℕ → Ruling ℕ)
    (left : Lists → ℕ → List ℕ)
    (answered : (s : Lists) (work : ℕ) → draw s work ≡ draw_outcome s.protocol s.steps (length s.output) work)
    (leaves : (s : Lists) (work : ℕ) → left s work ≡ draw_output s.protocol s.steps s.output work) where
  -- some steps are drawn: two lists, with different graphs
  pub some_drawn : draw (with_steps printed_nodes refl) work_need ≡ passed (length printed_graph)
  some_drawn = answered (with_steps printed_nodes refl) work_need ∙ (printed_drawn room work_need (omega arith) (omega arith)).0

  pub some_graph : left (with_steps printed_nodes refl) work_need ≡ printed_graph
  unfolding splice
  some_graph = leaves (with_steps printed_nodes refl) work_need ∙ (printed_drawn room work_need (omega arith) (omega arith)).1

  pub other_drawn : draw (with_steps three_steps refl) work_need ≡ passed (length three_nodes)
  other_drawn = answered (with_steps three_steps refl) work_need ∙ (shorter_drawn room work_need (omega arith) (omega arith)).0

  pub other_graph : left (with_steps three_steps refl) work_need ≡ three_nodes ++ replicate 7 0
  unfolding splice
  other_graph = leaves (with_steps three_steps refl) work_need ∙ (shorter_drawn room work_need (omega arith) (omega arith)).1

  -- some are refused behind the first node, with 14 and with 9
  pub some_missing : draw (with_steps received_again refl) work_need ≡ refused 14 4
  some_missing = answered (with_steps received_again refl) work_need ∙ not_in_state (length room) work_need (omega arith)

  pub some_twice : draw (with_steps made_again refl) work_need ≡ refused 9 2
  some_twice = answered (with_steps made_again refl) work_need ∙ name_twice (length room) work_need (omega arith)

  -- "a writer that draws nothing"
  pub draws_nothing : ((s : Lists) (work : ℕ) → (n : ℕ) × (k : ℕ) × (draw s work ≡ refused n k)) → ⊥
  draws_nothing h =
      let (n, k, e) = h (with_steps printed_nodes refl) work_need in
      refused_passed n k (length printed_graph) (sym e ∙ some_drawn)

  -- "draws a stored graph"
  pub stored_graph :
      (stored : List ℕ) → ((s : Lists) (work n : ℕ) → draw s work ≡ passed n → left s work ≡ splice s.output 0 stored) → ⊥
  stored_graph stored h =
      let e : printed_graph ≡ splice room 0 stored =
      sym some_graph ∙ h (with_steps printed_nodes refl) work_need (length printed_graph) some_drawn in
      let i : three_nodes ++ replicate 7 0 ≡ splice room 0 stored =
      sym other_graph ∙ h (with_steps three_steps refl) work_need (length three_nodes) other_drawn in
      clash (cc (e, i))

  -- "says 14 before any step"
  pub says_first : ((s : Lists) (work k : ℕ) → draw s work ≡ refused 14 k → k ≡ 1) → ⊥
  says_first h = let e : ◌≡◌ {A = ℕ} 4 1 = h (with_steps received_again refl) work_need 4 some_missing in omega arith
