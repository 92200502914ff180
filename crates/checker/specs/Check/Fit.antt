-- A fit property file: "A protocol, or a property under a fit protocol, is fit when causes 2 to 5 are absent from it": of a property file these
-- are 2, 3 and 5.
use Rattle.std.specs.Prelude.{ℕ, ◌≤◌, ◌<◌, List, [], ◌∷◌, ◌↔◌, Bool, not, cond, ◌≡◌, refl, length}
use Rattle.std.specs.Prelude.{Some, None}
use Rattle.std.proofs.Common.{ap, ◌∙◌, arith}
use Rattle.lists.specs.Choice.{by_size}
use Rattle.octets.specs.Head.{Bytes}
use Rattle.number.specs.Reading.{Read, got}
use Rattle.rewriting.specs.Table.{Row, fixed_row, passed, or_refuse, Absent}
use Rattle.rewriting.specs.Table.Laws.{absent_passed, passed_absent}
use Rattle.protocol.specs.Protocol.{Protocol, fact_arities}
use Rattle.protocol.specs.Protocol.Limits.{Within}
use Rattle.protocol.specs.Protocol.Exact.{few_arities}
use Rattle.property.specs.Formula.{Formula}
use Rattle.property.specs.Fit.{IsFit}
use Rattle.property.specs.Fit.Laws.{fit_decides}
use Rattle.lists.specs.Reflects.{reflects_back}
use Rattle.property.specs.Layout.{property}
use Rattle.property.specs.Layout.Exact.{property_form}
use Rattle.property.specs.Causes.{property_item, property_ruling}
use Rattle.property.specs.Causes.Laws.{Passing, property_ruled}
use Rattle.checker.specs.Check.{property_limit, property_under, property_under_rows}

-- the file holds the property f, which keeps to the limits and to its scopes
pub record FitProperty (p : Protocol) (file : List ℕ) (f : Formula) : Type 0 where
  pub short : length file ≤ property_limit
  pub reads : property file (fact_arities p.symbols) ≡ got f (length file)
  pub fits : IsFit [] f

-- 2, 3 and 5
abbrev pub fit_property_rows : Protocol → List ℕ → List Row
fit_property_rows p file = fixed_row 2 property_item (property_limit < length file) ∷ property_under_rows p file

module _ (p : Protocol) (file : List ℕ) where
  abbrev Reading : Read Formula
  Reading = property file (fact_arities p.symbols)

  fit_reading : (f : Formula) → FitProperty p file f → Passing Reading f
  fit_reading f h = record { end = length file; there = h.reads; fits = h.fits }

  -- a fit property passes
  pub fit_property_passed : (f : Formula) → FitProperty p file f → property_under p file ≡ passed f
  fit_property_passed f h =
      ap property_ruling h.reads ∙ ap (λ (b : Bool). or_refuse 5 (cond (not b) (Some 0) None) (passed f)) (reflects_back (fit_decides [] f) h.fits)

  module _ (within : Within p) (bytes : Bytes file) where
    pub passing_fit : length file ≤ property_limit → (f : Formula) → Passing Reading f → FitProperty p file f
    passing_fit l f h =
        let few = few_arities p.symbols within.few_symbols in
        let w = property_form file bytes (fact_arities p.symbols) (omega (arith, few)) f h.end h.there in
        record { short = l; reads = h.there ∙ ap (got f) w.2; fits = h.fits }

    -- ── the rows say just this ──
    pub fit_property_exactly : ((f : Formula) × FitProperty p file f) ↔ Absent (fit_property_rows p file)
    fit_property_exactly = (there, back)
      where
        there : (f : Formula) × FitProperty p file f → Absent (fit_property_rows p file)
        there (f, h) = (
          (λ k n. omega (arith, n.1, h.short)),
          passed_absent (Passing Reading) (property_under_rows p file) (property_under p file) f (property_ruled Reading) (fit_property_passed f h),
        )

        back : Absent (fit_property_rows p file) → (f : Formula) × FitProperty p file f
        back a =
            let (f, h, e) = absent_passed (Passing Reading) (property_under_rows p file) (property_under p file) (property_ruled Reading) a.1 in
            (f, passing_fit (by_size property_limit (length file) (λ l. absurd (a.0 property_item (refl, l))) (λ l. l)) f h)
