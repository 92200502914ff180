-- The second proved table: files, and the outcome that documents 01 and 02 say. The theorems of the calls hold of whatever rules, sorts, flags and
-- figures are defined, so a definition that said another would be proved together with its code; here it loses a row.
use Rattle.std.specs.Prelude.{List, [], ◌∷◌, ◌++◌}
use Rattle.lists.specs.All.{All}
use Rattle.lists.specs.All.Laws.{all_append}
use Rattle.cases_proved.specs.Pinned.Row.{Holds}
use Rattle.cases_proved.specs.Pinned.Row as claims
use Rattle.cases_proved.specs.Pinned.Refusals as refusals
use Rattle.cases_proved.specs.Pinned.Rules as rules
use Rattle.cases_proved.specs.Pinned.Limits as limits
use Rattle.cases_proved.specs.Pinned.Edges as edges
use Rattle.cases_proved.specs.Pinned.Groups as groups
use Rattle.cases_proved.specs.Pinned.Sources as sources
use Rattle.cases_proved.specs.Pinned.Equations as equations
use Rattle.cases_proved.specs.Pinned.Signatures as signatures
use Rattle.cases_proved.specs.Pinned.Properties as properties
-- what a row claims, and how it is computed
pub mod Row
-- each cause of the refusal table, with its number and item; P1 to P5; what a value is; the order of the causes
pub mod Refusals
-- the built-in rules, the apply-rules and the protocol's by number, argument order, sorts, linear and persistent facts
pub mod Rules
-- the figures of the files, each at its most and one past it; the numbers of tags, symbols, sorts and flags
pub mod Limits
pub mod Edges
-- numbers of four groups at each kind of place, and of five at some
pub mod Groups
-- which sources the writer takes
pub mod Sources
-- which messages are equal and which are canonical
pub mod Equations
-- signatures and public keys
pub mod Signatures
-- the forms of a property, each by traces that make it true and traces that make it false
pub mod Properties

-- rows, and that they hold
pub record Part : Type 0 where
  pub rows : List claims.Row
  pub rows_hold : All Holds rows

abbrev pub parts : List Part
parts =
    record { rows = refusals.rows; rows_hold = refusals.rows_hold }
    ∷ record { rows = rules.rows; rows_hold = rules.rows_hold }
    ∷ record { rows = limits.rows; rows_hold = limits.rows_hold }
    ∷ record { rows = edges.rows; rows_hold = edges.rows_hold }
    ∷ record { rows = groups.rows; rows_hold = groups.rows_hold }
    ∷ record { rows = sources.rows; rows_hold = sources.rows_hold }
    ∷ record { rows = equations.rows; rows_hold = equations.rows_hold }
    ∷ record { rows = signatures.rows; rows_hold = signatures.rows_hold }
    ∷ record { rows = properties.rows; rows_hold = properties.rows_hold }
    ∷ []

-- ── the table ──
abbrev rows_of : List Part → List claims.Row
rows_of [] = []
rows_of (p ∷ ps) = p.rows ++ rows_of ps

hold : (ps : List Part) → All Holds (rows_of ps)
hold [] = tt
hold (p ∷ ps) = all_append Holds p.rows (rows_of ps) p.rows_hold (hold ps)

abbrev pub pinned : List claims.Row
pinned = rows_of parts

pub pinned_hold : All Holds pinned
pinned_hold = hold parts
