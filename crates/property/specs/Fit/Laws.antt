-- The test of cause 5 decides the statement.
use Rattle.std.specs.Prelude.{ℕ, zero, suc, ◌+◌, List, [], ◌∷◌, ◌++◌, true, not, ◌≡◌, refl, length}
use Rattle.std.proofs.Common.{⊎_elim, sym, ap, subst, arith}
use Rattle.std.specs.Prelude.{Option, Some}
use Rattle.lists.specs.Choice.{clash}
use Rattle.lists.specs.Lists.{◌∈◌, any_by}
use Rattle.lists.specs.Reflects.{reflects_true, reflects_back, reflects_dec, reflects_not}
use Rattle.lists.specs.Reflects.{Reflects, right, wrong, reflects_iff, reflects_and, reflects_eq, reflects_any, reflects_every}
use Rattle.property.specs.Formula.{Sort, msg, tmp, Term, var, public, Pattern, Atom, equal, before, together, action, Formula}
use Rattle.property.specs.Formula.{absurdity, is, isnt, both, either, exists, every}
use Rattle.property.specs.Fit.{HasSort, TermFits, PatternFits, AtomFits, InGuard, AllInGuard, IsFit}
use Rattle.property.specs.Fit.{sort_is, in_scope, term_fits, pattern_fits, atom_fits, is_var, guarded, fit}

sort_decides : (y s : Sort) → Reflects (◌≡◌ {A = Option Sort} (Some y) (Some s)) (sort_is y s)
sort_decides msg msg = right refl
sort_decides msg tmp = wrong (λ e. clash (cc))
sort_decides tmp msg = wrong (λ e. clash (cc))
sort_decides tmp tmp = right refl

pub scope_decides : (scope : List Sort) (x : ℕ) (s : Sort) → Reflects (HasSort scope x s) (in_scope scope x s)
scope_decides [] x s = wrong (λ e. clash (cc))
scope_decides (y ∷ scope) zero s = sort_decides y s
scope_decides (y ∷ scope) (suc x) s = scope_decides scope x s

term_decides : (scope : List Sort) (t : Term) → Reflects (TermFits scope t) (term_fits scope t)
term_decides scope (var x) = scope_decides scope x msg
term_decides scope (public n) = right tt

pattern_decides : (scope : List Sort) (g : Pattern) (i : ℕ) → Reflects (PatternFits scope g i) (pattern_fits scope g i)
pattern_decides scope g i = reflects_and (reflects_every (term_decides scope) g.terms) (scope_decides scope i tmp)

atom_decides : (scope : List Sort) (a : Atom) → Reflects (AtomFits scope a) (atom_fits scope a)
atom_decides scope (equal t u) = reflects_and (term_decides scope t) (term_decides scope u)
atom_decides scope (before i j) = reflects_and (scope_decides scope i tmp) (scope_decides scope j tmp)
atom_decides scope (together i j) = reflects_and (scope_decides scope i tmp) (scope_decides scope j tmp)
atom_decides scope (action g i) = pattern_decides scope g i

-- ── a variable in its guard ──
var_decides : (x : ℕ) (t : Term) → Reflects (var x ≡ t) (is_var x t)
var_decides x (var y) = reflects_iff (ap var) (λ e. cc) (reflects_eq x y)
var_decides x (public n) = wrong (λ e. clash (cc))

among_decides : (x : ℕ) (ts : List Term) → Reflects (var x ∈ ts) (any_by (is_var x) ts)
among_decides x ts =
    reflects_iff (λ h. subst (λ (t : Term). t ∈ ts) (sym h.2) h.1) (λ m. (var x, m, refl)) (reflects_any (var_decides x) ts)

-- the first new variable, and those behind it
module _ (g : Pattern) (i x : ℕ) (t : Sort) (s : List Sort) where
  there : InGuard g i x t × AllInGuard (suc x) s g i → AllInGuard x (t ∷ s) g i
  there h zero u e = let z : x + 0 ≡ x = omega arith in let q : t ≡ u = cc in
      subst (λ (v : Sort). InGuard g i (x + 0) v) q (subst (λ (y : ℕ). InGuard g i y t) (sym z) h.0)
  there h (suc k) u e = let z : x + suc k ≡ suc x + k = omega arith in
      subst (λ (y : ℕ). InGuard g i y u) (sym z) (h.1 k u e)

  back : AllInGuard x (t ∷ s) g i → InGuard g i x t × AllInGuard (suc x) s g i
  back h = (
    (let z : x + 0 ≡ x = omega arith in subst (λ (y : ℕ). InGuard g i y t) z (h 0 t refl)),
    (λ k u e. let z : x + suc k ≡ suc x + k = omega arith in subst (λ (y : ℕ). InGuard g i y u) z (h (suc k) u e)),
  )

pub guarded_decides : (x : ℕ) (s : List Sort) (g : Pattern) (i : ℕ) → Reflects (AllInGuard x s g i) (guarded x s g.terms i)
guarded_decides x [] g i = right (λ k t e. clash (cc))
guarded_decides x (msg ∷ s) g i =
    reflects_iff (there g i x msg s) (back g i x msg s) (reflects_and (among_decides x g.terms) (guarded_decides (suc x) s g i))
guarded_decides x (tmp ∷ s) g i =
    reflects_iff (there g i x tmp s) (back g i x tmp s) (reflects_and (reflects_eq x i) (guarded_decides (suc x) s g i))

-- ── the whole formula ──
pub fit_decides : (scope : List Sort) (f : Formula) → Reflects (IsFit scope f) (fit scope f)
fit_decides scope absurdity = right tt
fit_decides scope (is a) = atom_decides scope a
fit_decides scope (isnt a) = atom_decides scope a
fit_decides scope (both f g) = reflects_and (fit_decides scope f) (fit_decides scope g)
fit_decides scope (either f g) = reflects_and (fit_decides scope f) (fit_decides scope g)
fit_decides scope (exists s g i f) =
    reflects_and (pattern_decides (scope ++ s) g i) (reflects_and (guarded_decides (length scope) s g i) (fit_decides (scope ++ s) f))
fit_decides scope (every s g i f) =
    reflects_and (pattern_decides (scope ++ s) g i) (reflects_and (guarded_decides (length scope) s g i) (fit_decides (scope ++ s) f))

-- ── 5 is there just where the test fails ──
module _ (f : Formula) where
  pub unfit_is : not (fit [] f) ≡ true → ¬ IsFit [] f
  unfit_is h = reflects_true (reflects_not (fit_decides [] f)) h

  pub is_unfit : (¬ IsFit [] f) → not (fit [] f) ≡ true
  is_unfit n = reflects_back (reflects_not (fit_decides [] f)) n

  pub fit_stable : ((¬ IsFit [] f) → ⊥) → IsFit [] f
  fit_stable n = ⊎_elim (λ h. h) (λ h. absurd (n h)) (reflects_dec (fit_decides [] f))
