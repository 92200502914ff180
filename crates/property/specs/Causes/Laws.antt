-- The ruling of a property file is what the rows say; a property that passes is within the limits and fit.
use Rattle.std.specs.Prelude.{ℕ, ◌≤◌, List, [], ◌∷◌, true, ◌≡◌, refl, length}
use Rattle.std.proofs.Common.{inl, inr, subst, arith}
use Rattle.lists.specs.Choice.{clash}
use Rattle.lists.specs.Reflects.{reflects_back}
use Rattle.octets.specs.Head.{Bytes}
use Rattle.rewriting.specs.Table.{passed, Ruled}
use Rattle.rewriting.specs.Table.Laws.{ruled, ruled_and_then, passed_good}
use Rattle.number.specs.Reading.{Read, got, fault}
use Rattle.property.specs.Formula.{Formula}
use Rattle.property.specs.Formula.Limits.{FormulaWithin}
use Rattle.property.specs.Fit.{IsFit, fit}
use Rattle.property.specs.Fit.Laws.{fit_decides, fit_stable}
use Rattle.property.specs.Reads.{Reads}
use Rattle.property.specs.Reads.Laws.{property_reads}
use Rattle.property.specs.Layout.{encode_formula, property}
use Rattle.property.specs.Layout.Exact.{property_form, property_back}
use Rattle.property.specs.Causes.{property_item, read_rows, read_ruling, fit_pass, fit_rows, fit_ruling, property_rows, property_ruling}

-- a formula that was read and is fit
pub record Passing (r : Read Formula) (f : Formula) : Type 0 where
  pub end : ℕ
  pub there : r ≡ got f end
  pub fits : IsFit [] f

read_ruled : (r : Read Formula) → Ruled (read_rows r) (λ f. (e : ℕ) × (r ≡ got f e)) (read_ruling r)
read_ruled (got f e) = inl ((λ k h. clash (cc h.1)), (f, (e, refl), refl))
read_ruled fault = inr (property_item, record { here = (refl, refl); below = λ j l h. omega (arith, h.0) }, refl)

pub property_ruled : (r : Read Formula) → Ruled (property_rows r) (Passing r) (property_ruling r)
property_ruled r =
    ruled_and_then (λ f. (e : ℕ) × (r ≡ got f e)) (Passing r) (read_rows r) (read_ruling r) fit_rows fit_ruling (read_ruled r)
    (λ f (e, h) q. ruled (Passing r) (fit_pass f ∷ []) f (λ n. record { end = e; there = h; fits = fit_stable f (λ u. n.0 0 (refl, u)) }))

-- ── a property that passes ──
-- the answer passes, so a formula was read and is fit
pub passed_passing : (r : Read Formula) (f : Formula) → property_ruling r ≡ passed f → Passing r f
passed_passing r f h = passed_good (Passing r) (property_rows r) f (subst (Ruled (property_rows r) (Passing r)) h (property_ruled r))

-- it is written in the file, and its test of 5 holds
module _ (file ars : List ℕ) (f : Formula) (p : Passing (property file ars) f) where
  pub passing_reads : Reads file ars 0 f p.end
  passing_reads = property_reads file ars f p.end p.there

  pub passing_test : fit [] f ≡ true
  passing_test = reflects_back (fit_decides [] f) p.fits

-- ── the file ──
module _ (file : List ℕ) (bytes : Bytes file) (ars : List ℕ) (few : length ars ≤ 256) where
  -- a property that passes: its file is its bytes, it is within the limits and fit
  pub record FitProperty (f : Formula) : Type 0 where
    pub within : FormulaWithin ars f
    pub file_is : file ≡ encode_formula f
    pub fits : IsFit [] f

  pub passing_fit : (f : Formula) → Passing (property file ars) f → FitProperty f
  passing_fit f p =
      let w = property_form file bytes ars few f p.end p.there in
      record { within = w.0; file_is = w.1; fits = p.fits }

  pub fit_passing : (f : Formula) → FitProperty f → Passing (property file ars) f
  fit_passing f p = record { end = length file; there = property_back file bytes ars few f p.within p.file_is; fits = p.fits }
