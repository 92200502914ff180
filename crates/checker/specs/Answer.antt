-- What the calls answer and what they leave in lent memory.
use Rattle.std.specs.Prelude.{ℕ, ◌+◌, ◌*◌, ◌^◌, ◌<◌, List, [], ◌∷◌, ◌≡◌, length, replicate, eqb, Result, Ok, Err}
use Rattle.std.proofs.Common.{ap}
use Rattle.lists.specs.Choice.{pick}
use Rattle.octets.specs.Splice.{splice}
use Rattle.rewriting.specs.Table.{Ruling, passed, refused, Row, fixed_row, ruling_of}
use Rattle.rewriting.specs.Table.Passes.{need_pass}
use Rattle.checker.specs.declared.Refusal.{Refusal}
-- the packed answers come apart again
pub mod Laws
-- a ruling and the output, for both writing calls
pub mod Judged

-- ── the answers' numbers and values ──
-- what drawing and canonical form answer: the length written, or a refusal
abbrev pub Written : Type 0
Written = Result ℕ Refusal

abbrev pub written : Written → Ruling ℕ
written (Ok n) = passed n
written (Err r) = refused r.number r.item

abbrev pub refusal : ℕ → ℕ → Refusal
refusal n k = record { number = n; item = k }

-- a refusal that was made is that of the table
pub written_refused : {r : Refusal} {n k : ℕ} → r ≡ refusal n k → written (Err r) ≡ refused n k
written_refused e = ap (λ (r : Refusal). written (Err r)) e

-- ── "output short", 15, "bytes needed" ──
abbrev pub room_for : ℕ → ℕ → Ruling ℕ
room_for output n = ruling_of (need_pass 15 output n ∷ []) n

abbrev pub room_for_rows : ℕ → ℕ → List Row
room_for_rows output n = fixed_row 15 n (output < n) ∷ []

-- ── lent memory ──
-- "The work area is short below 65,536 bytes and never otherwise"
abbrev pub work_need : ℕ
work_need = 65536

-- "After every call but refusal 1 it is all zeros."
abbrev pub work_after : {A : Type 0} → Ruling A → List ℕ → List ℕ
work_after (passed a) work = replicate (length work) 0
work_after (refused n k) work = pick (eqb n 1) work (replicate (length work) 0)

-- "Output past what was written never changes": the bytes from the start of the output, where they were written
abbrev pub output_after : {A : Type 0} → Ruling A → List ℕ → List ℕ → List ℕ
output_after (passed a) bytes output = splice output 0 bytes
output_after (refused n k) bytes output = output

-- the bytes of what passes
abbrev pub bytes_of : {A : Type 0} → (A → List ℕ) → Ruling A → List ℕ
bytes_of code (passed a) = code a
bytes_of code (refused n k) = []

-- ── the C functions' answers ──
-- bits 56 up: 0 refused, 3 written; refused: bits 32 to 39 the number, bits 0 to 31 the item; written: bits 0 to 31 the length
abbrev pub packed : Ruling ℕ → ℕ
packed (passed n) = 3 * 2 ^ 56 + n
packed (refused n k) = n * 2 ^ 32 + k
