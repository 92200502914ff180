-- What drawing writes: where it passes, the graph starts the output, there is room for it, and what stands behind it is as it was.
use Rattle.std.specs.Prelude.{ℕ, ◌+◌, ◌≤◌, List, ◌≡◌, length, take, drop}
use Rattle.std.proofs.Common.{ap, sym, ◌∙◌, arith}
use Rattle.lists.specs.Choice.{by_size}
use Rattle.octets.specs.Head.{Bytes}
use Rattle.octets.specs.Splice.{splice}
use Rattle.octets.specs.Splice.Laws.{take_past, drop_splice}
use Rattle.rewriting.specs.Table.{passed, refused}
use Rattle.rewriting.specs.Table.Laws.{refused_passed}
use Rattle.graph.specs.Graph.{encode_graph}
use Rattle.checker.specs.Answer.{work_need}
use Rattle.checker.specs.Draw.{draw_outcome, draw_output}
use Rattle.checker.specs.Draw.Cases.{work_short, no_room, output_written}
use Rattle.checker.specs.Draw.Laws.{DrawnLength, draws_passed, passed_draws}

-- bytes written to the start of a list that has room for them
module _ (output bytes : List ℕ) (room : length bytes ≤ length output) where
  pub written_front : take (length bytes) (splice output 0 bytes) ≡ bytes
  written_front =
      let z : 0 + length bytes ≡ length bytes = omega arith in
      ap (λ (k : ℕ). take k (splice output 0 bytes)) (sym z) ∙ take_past output 0 bytes (omega arith)

  pub written_behind : drop (length bytes) (splice output 0 bytes) ≡ drop (length bytes) output
  written_behind =
      let z : 0 + length bytes ≡ length bytes = omega arith in
      ap (λ (k : ℕ). drop k (splice output 0 bytes)) (sym z) ∙ drop_splice output 0 bytes (omega arith) ∙ ap (λ (k : ℕ). drop k output) z

module _ (protocol steps : List ℕ) where
  module _ (output : List ℕ) (work : ℕ) where
    pub record GraphWritten (n : ℕ) : Type 0 where
      -- the graph of these files and its length
      pub its : DrawnLength protocol steps n
      pub room : n ≤ length output
      pub left : draw_output protocol steps output work ≡ splice output 0 (encode_graph its.is_graph)

  module _ (bytes : Bytes protocol) (steps_bytes : Bytes steps) (output : List ℕ) (work n : ℕ) (e : draw_outcome protocol steps (length output) work ≡ passed n)
    where
      never : {C : Type 0} (m k : ℕ) → draw_outcome protocol steps (length output) work ≡ refused m k → C
      never m k f = absurd (refused_passed m k n (sym f ∙ e))

      long : work_need ≤ work
      long = by_size work work_need (λ l. never 1 0 (work_short protocol steps (length output) work l)) (λ l. l)

      pub graph_written : GraphWritten output work n
      graph_written =
          let a = passed_draws protocol steps bytes steps_bytes (length output) work n e in
          let g = a.is_graph in
          let d = a.files in
          let is = draws_passed protocol steps bytes steps_bytes a.is_protocol g d in
          record {
            its = a;
            room =
                by_size (length output) n
                (λ l. never 15 (length (encode_graph g))
                (no_room protocol steps (length output) work long d.fit.short d.short g is (omega (arith, l, a.needs))))
                (λ l. l);
            left = sym (output_written protocol steps output work n g e is);
          }
