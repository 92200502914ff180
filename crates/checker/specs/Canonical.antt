-- "Canonical form reads protocol and term, writes the canonical term's bytes from the start of the output and returns their length."
use Rattle.std.specs.Prelude.{ℕ, List, [], ◌∷◌, ◌++◌, length}
use Rattle.term.specs.Term.{Term, encode}
use Rattle.term.specs.Arity.{tag_arities}
use Rattle.message.specs.Canon.{canon}
use Rattle.rewriting.specs.Table.{Ruling, Row, Pass, ruling_then, rows_then, and_then, rows_after}
use Rattle.rewriting.specs.Table.Passes.{less_pass}
use Rattle.checker.specs.Answer.{room_for, room_for_rows, work_need, work_after, output_after, bytes_of}
use Rattle.checker.specs.Files.{protocol_limit, term_limit, protocol_item, term_item, protocol_ruling, protocol_rows, term_ruling, term_rows}
-- its outcome is what the table says
pub mod Laws
-- what the functions inside it are asked and promise
pub mod Contracts
-- the canonical form of a term file's term
pub mod Forms
-- case by case, as the code goes
pub mod Cases
-- one outcome, and that good files give it
pub mod Back
-- from what the functions inside it find to what it promises
pub mod Inside
-- from the verdict on the protocol file to the whole call
pub mod Whole
-- what it writes, in terms of the files
pub mod Files
-- what it writes, in document 01's words
pub mod Meaning
-- its packed answer comes apart into the outcome
pub mod Bounds
-- a term of 256 symbols is short
pub mod Short

-- the protocol and the term that the files hold, or the refusal of one of them
abbrev pub term_of : List ℕ → List ℕ → Ruling Term
term_of protocol term = and_then (protocol_ruling protocol) (λ p. term_ruling (tag_arities p.functions) term)

abbrev pub need : Term → ℕ
need t = length (encode (canon t))

-- 1, and 2 for both files
abbrev pub sizes : List ℕ → List ℕ → ℕ → List Pass
sizes protocol term work =
    less_pass 1 0 work work_need
    ∷ less_pass 2 protocol_item protocol_limit (length protocol)
    ∷ less_pass 2 term_item term_limit (length term)
    ∷ []

-- 15, with the bytes needed
abbrev pub room_ruling : ℕ → Term → Ruling ℕ
room_ruling output t = room_for output (need t)

abbrev pub room_rows : ℕ → Term → List Row
room_rows output t = room_for_rows output (need t)

-- "Canonical form: 1 to 4, term 3, 8, 15"
unfoldable pub canonical_outcome : List ℕ → List ℕ → ℕ → ℕ → Ruling ℕ
canonical_outcome protocol term output work =
    ruling_then (sizes protocol term work) (and_then (term_of protocol term) (room_ruling output))

-- the same as rows of the table
abbrev pub read_rows : List ℕ → List ℕ → List Row
read_rows protocol term = protocol_rows protocol ++ rows_after (protocol_ruling protocol) (λ p. term_rows (tag_arities p.functions) term)

abbrev pub canonical_rows : List ℕ → List ℕ → ℕ → ℕ → List Row
canonical_rows protocol term output work =
    rows_then (sizes protocol term work) (read_rows protocol term ++ rows_after (term_of protocol term) (room_rows output))

-- the bytes that it writes where it passes
abbrev pub form_of : Ruling Term → List ℕ
form_of r = bytes_of (λ t. encode (canon t)) r

-- ── lent memory ──
unfoldable pub canonical_output : List ℕ → List ℕ → List ℕ → ℕ → List ℕ
canonical_output protocol term output work =
    output_after (canonical_outcome protocol term (length output) work) (form_of (term_of protocol term)) output

unfoldable pub canonical_work : List ℕ → List ℕ → ℕ → List ℕ → List ℕ
canonical_work protocol term output work = work_after (canonical_outcome protocol term output (length work)) work
