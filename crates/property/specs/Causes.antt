-- The ruling of a property file: 3 over the whole file, then 5 over the whole file.
use Rattle.std.specs.Prelude.{ℕ, List, [], ◌∷◌, ◌++◌, not, ◌≡◌}
use Rattle.rewriting.specs.Table.{Ruling, passed, refused, Row, fixed_row, Pass, ruling_of, and_then, rows_after}
use Rattle.rewriting.specs.Table.Passes.{test_pass}
use Rattle.number.specs.Reading.{Read, got, fault}
use Rattle.property.specs.Formula.{Formula}
use Rattle.property.specs.Fit.{IsFit, fit}
use Rattle.property.specs.Fit.Laws.{unfit_is, is_unfit}
-- the ruling is what the rows say
pub mod Laws
-- what the code answers
pub mod Code

-- "An item is .. 2 property .. where "file" stands."
abbrev pub property_item : ℕ
property_item = 2

-- "layout, limit, undeclared symbol .., leftover bytes"
abbrev pub read_rows : Read Formula → List Row
read_rows r = fixed_row 3 property_item (r ≡ fault) ∷ []

abbrev pub read_ruling : Read Formula → Ruling Formula
read_ruling (got f e) = passed f
read_ruling fault = refused 3 property_item

-- "variable out of scope or of wrong sort, or new one not in its guard", with item 0
abbrev pub fit_rows : Formula → List Row
fit_rows f = fixed_row 5 0 (¬ IsFit [] f) ∷ []

abbrev pub fit_pass : Formula → Pass
fit_pass f = test_pass 5 0 (¬ IsFit [] f) (not (fit [] f)) (unfit_is f) (is_unfit f)

abbrev pub fit_ruling : Formula → Ruling Formula
fit_ruling f = ruling_of (fit_pass f ∷ []) f

-- 3, then 5
abbrev pub property_rows : Read Formula → List Row
property_rows r = read_rows r ++ rows_after (read_ruling r) fit_rows

abbrev pub property_ruling : Read Formula → Ruling Formula
property_ruling r = and_then (read_ruling r) fit_ruling
