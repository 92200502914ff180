-- A ruling and the output: what passes is written to the start of the output, or the output is short; said once for both writing calls.
use Rattle.std.specs.Prelude.{ℕ, ◌≤◌, ◌<◌, List, [], ◌≡◌, length}
use Rattle.std.proofs.Common.{ap, sym, ◌∙◌, subst}
use Rattle.octets.specs.Splice.{splice}
use Rattle.rewriting.specs.Table.{Ruling, passed, refused, and_then}
use Rattle.checker.specs.Answer.{Written}
use Rattle.checker.specs.Answer.{written, room_for, bytes_of, output_after}
use Rattle.checker.specs.Passing.{less_yes, less_no}

-- what passes has these bytes
module _ {A : Type 0} (code : A → List ℕ) where
  abbrev fitted : ℕ → Ruling A → Ruling ℕ
  fitted output ruling = and_then ruling (λ a. room_for output (length (code a)))

  abbrev kept : Ruling A → List ℕ → List ℕ
  kept ruling output = output_after (fitted (length output) ruling) (bytes_of code ruling) output

  pub record Judges (ruling : Ruling A) (output output' : List ℕ) (w : Written) : Type 0 where
    pub answer : written w ≡ fitted (length output) ruling
    pub left : output' ≡ kept ruling output

  module _ (ruling : Ruling A) (output : List ℕ) (w : Written) where
    pub judges_refused : (n k : ℕ) → ruling ≡ refused n k → written w ≡ refused n k → Judges ruling output output w
    judges_refused n k e q = record { answer = q ∙ sym (ap (fitted (length output)) e); left = sym (ap (λ (r : Ruling A). kept r output) e) }

    module _ (a : A) (e : ruling ≡ passed a) where
      pub judges_passed : (output' : List ℕ) → Judges (passed a) output output' w → Judges ruling output output' w
      judges_passed output' j = subst (λ (r : Ruling A). Judges r output output' w) (sym e) j

      pub judges_short : length output < length (code a) → written w ≡ refused 15 (length (code a)) → Judges ruling output output w
      judges_short l q =
          let n : ℕ = length (code a) in
          let r = less_yes 15 n (length output) n [] (passed n) l in
          judges_passed output record { answer = q ∙ sym r; left = sym (ap (λ (x : Ruling ℕ). output_after x (code a) output) r) }

      pub judges_written : length (code a) ≤ length output → written w ≡ passed (length (code a)) → Judges ruling output (splice output 0 (code a)) w
      judges_written l q =
          let n : ℕ = length (code a) in
          let r = less_no 15 n (length output) n [] (passed n) l in
          judges_passed (splice output 0 (code a)) record { answer = q ∙ sym r; left = sym (ap (λ (x : Ruling ℕ). output_after x (code a) output) r) }

-- the same bytes of another thing that passes
pub judges_as :
    {A B : Type 0} (code : A → List ℕ) (code' : B → List ℕ) (a : A) (b : B) → code a ≡ code' b → (output output' : List ℕ) (w : Written)
    → Judges code (passed a) output output' w → Judges code' (passed b) output output' w
judges_as code code' a b e output output' w j = record {
  answer = j.answer ∙ ap (λ (l : List ℕ). room_for (length output) (length l)) e;
  left = j.left ∙ ap (λ (l : List ℕ). output_after (room_for (length output) (length l)) l output) e;
}
