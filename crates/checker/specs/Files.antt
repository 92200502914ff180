-- The files of the calls: their byte limits, their items, and what reading them rules, once for every call.
use Rattle.std.specs.Prelude.{ℕ, ◌<◌, List, [], ◌∷◌, ◌++◌, not, ◌&&◌, ◌≡◌, length, eqb}
use Rattle.std.specs.Prelude.{Some}
use Rattle.term.specs.Sizes.{most_symbols}
use Rattle.lists.specs.Choice.{pick}
use Rattle.lists.specs.Lists.{nth}
use Rattle.number.specs.Groups.{number_limit}
use Rattle.number.specs.Reading.{Read, got, fault}
use Rattle.number.specs.Reading as reading
use Rattle.term.specs.Term.{Term, symbols}
use Rattle.term.specs.Reader.{term}
use Rattle.term.specs.Walk.{holds}
use Rattle.rewriting.specs.Table.{Ruling, passed, refused, Row, row, fixed_row, ruling_of, and_then, rows_after}
use Rattle.rewriting.specs.Table.Passes.{least_pass, less_pass}
use Rattle.protocol.specs.Protocol.{Rule, Protocol, protocol}
use Rattle.rules.specs.Fit.{fits}
use Rattle.rules.specs.Fit.Meaning as conditions
-- what the table says of each
pub mod Laws
-- a term file is read exactly
pub mod Terms
-- the verdict on a protocol file is its ruling
pub mod Verdict
-- what the code answers of them
pub mod Answers
-- a fit protocol file, and that the rows say it
pub mod Fit

-- "Protocol (4,096 bytes)"; document 02, Change 3: "the term file grows to 1,280 bytes"
abbrev pub protocol_limit : ℕ
protocol_limit = 4096

abbrev pub term_limit : ℕ
term_limit = 1280

-- "An item is 1 protocol, 2 property, 3 graph, 4 term, 5 steps"
abbrev pub protocol_item : ℕ
protocol_item = 1

abbrev pub term_item : ℕ
term_item = 4

-- cause 3: what does not read is refused with its file's item
abbrev pub layout : {A : Type 0} → ℕ → Read A → Ruling A
layout item (got x e) = passed x
layout item fault = refused 3 item

abbrev pub layout_rows : {A : Type 0} → ℕ → Read A → List Row
layout_rows item r = fixed_row 3 item (r ≡ fault) ∷ []

-- ── the protocol: 3, then 4 ──
abbrev pub fit_ruling : Protocol → Ruling Protocol
fit_ruling p = ruling_of (least_pass 4 (λ k r. fits r) p.rules ∷ []) p

-- "P1 to P4 broken", 4, "rule, from 1"; document 02: "refusal 4 covers" the fifth condition too
pub record Unfit (rules : List Rule) (k : ℕ) : Type 0 where
  pub which : Rule
  pub stands : nth rules k ≡ Some which
  pub not_fit : ¬ conditions.Fit which

abbrev pub fit_rows : Protocol → List Row
fit_rows p = row 4 (Unfit p.rules) ∷ []

abbrev pub protocol_ruling : List ℕ → Ruling Protocol
protocol_ruling file = and_then (layout protocol_item (protocol file)) fit_ruling

abbrev pub protocol_rows : List ℕ → List Row
protocol_rows file = layout_rows protocol_item (protocol file) ++ rows_after (layout protocol_item (protocol file)) fit_rows

-- ── the term: 3, then 8 ──
-- "one term without variables", and no leftover bytes
unfoldable pub term_file : List ℕ → List ℕ → Read Term
term_file arities file =
    reading.and_then (term file arities 0)
    (λ t e. pick (eqb e (length file) && not (holds t 0 0 number_limit)) (got t e) fault)

-- "at most 256 symbols"
abbrev pub size_ruling : Term → Ruling Term
size_ruling t = ruling_of (less_pass 8 0 most_symbols (symbols t) ∷ []) t

abbrev pub size_rows : Term → List Row
size_rows t = fixed_row 8 0 (most_symbols < symbols t) ∷ []

abbrev pub term_ruling : List ℕ → List ℕ → Ruling Term
term_ruling arities file = and_then (layout term_item (term_file arities file)) size_ruling

abbrev pub term_rows : List ℕ → List ℕ → List Row
term_rows arities file = layout_rows term_item (term_file arities file) ++ rows_after (layout term_item (term_file arities file)) size_rows
