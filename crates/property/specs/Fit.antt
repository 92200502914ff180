-- "variable out of scope or of wrong sort, or new one not in its guard": what cause 5 asks of a formula, and a test of it. A scope is the
-- sorts of the variables of the enclosing quantifiers, the outermost first.
use Rattle.std.specs.Prelude.{ℕ, zero, suc, ◌+◌, Bool, true, false, ◌&&◌, List, [], ◌∷◌, ◌++◌, ◌≡◌, length, eqb}
use Rattle.std.specs.Prelude.{Some}
use Rattle.std.specs.Prelude.{slice_get}
use Rattle.lists.specs.Lists.{◌∈◌, any_by, all_by}
use Rattle.lists.specs.All.{All}
use Rattle.property.specs.Formula.{Sort, msg, tmp, Term, var, public, Pattern, Atom, equal, before, together, action, Formula}
use Rattle.property.specs.Formula.{absurdity, is, isnt, both, either, exists, every}
-- the test decides the statement
pub mod Laws

-- ── the statement ──
-- the variable is in scope, and of that sort
abbrev pub HasSort : List Sort → ℕ → Sort → Type 0
HasSort scope x s = slice_get scope x ≡ Some s

-- a variable that stands for a message is of sort message
abbrev pub TermFits : List Sort → Term → Type 0
TermFits scope (var x) = HasSort scope x msg
TermFits scope (public n) = Unit {0}

-- the terms of a fact, and its time variable
abbrev pub PatternFits : List Sort → Pattern → ℕ → Type 0
PatternFits scope g i = All (TermFits scope) g.terms × HasSort scope i tmp

abbrev pub AtomFits : List Sort → Atom → Type 0
AtomFits scope (equal t u) = TermFits scope t × TermFits scope u
AtomFits scope (before i j) = HasSort scope i tmp × HasSort scope j tmp
AtomFits scope (together i j) = HasSort scope i tmp × HasSort scope j tmp
AtomFits scope (action g i) = PatternFits scope g i

-- a variable is in a guard: a message among its terms, a time as its time
abbrev pub InGuard : Pattern → ℕ → ℕ → Sort → Type 0
InGuard g i x msg = var x ∈ g.terms
InGuard g i x tmp = x ≡ i

-- every new variable is; they are numbered from n on
abbrev pub AllInGuard : ℕ → List Sort → Pattern → ℕ → Type 0
AllInGuard n s g i = (k : ℕ) (t : Sort) → slice_get s k ≡ Some t → InGuard g i (n + k) t

abbrev pub IsFit : List Sort → Formula → Type 0
IsFit scope absurdity = Unit {0}
IsFit scope (is a) = AtomFits scope a
IsFit scope (isnt a) = AtomFits scope a
IsFit scope (both f g) = IsFit scope f × IsFit scope g
IsFit scope (either f g) = IsFit scope f × IsFit scope g
IsFit scope (exists s g i f) = PatternFits (scope ++ s) g i × (AllInGuard (length scope) s g i × IsFit (scope ++ s) f)
IsFit scope (every s g i f) = PatternFits (scope ++ s) g i × (AllInGuard (length scope) s g i × IsFit (scope ++ s) f)

-- ── the test ──
abbrev pub sort_is : Sort → Sort → Bool
sort_is msg msg = true
sort_is msg tmp = false
sort_is tmp msg = false
sort_is tmp tmp = true

abbrev pub in_scope : List Sort → ℕ → Sort → Bool
in_scope [] x s = false
in_scope (y ∷ ys) zero s = sort_is y s
in_scope (y ∷ ys) (suc x) s = in_scope ys x s

abbrev pub term_fits : List Sort → Term → Bool
term_fits scope (var x) = in_scope scope x msg
term_fits scope (public n) = true

abbrev pub pattern_fits : List Sort → Pattern → ℕ → Bool
pattern_fits scope g i = all_by (term_fits scope) g.terms && in_scope scope i tmp

abbrev pub atom_fits : List Sort → Atom → Bool
atom_fits scope (equal t u) = term_fits scope t && term_fits scope u
atom_fits scope (before i j) = in_scope scope i tmp && in_scope scope j tmp
atom_fits scope (together i j) = in_scope scope i tmp && in_scope scope j tmp
atom_fits scope (action g i) = pattern_fits scope g i

-- the term is the variable x
abbrev pub is_var : ℕ → Term → Bool
is_var x (var y) = eqb x y
is_var x (public n) = false

-- each new variable, numbered from x on, is in the guard
abbrev pub guarded : ℕ → List Sort → List Term → ℕ → Bool
guarded x [] ts i = true
guarded x (msg ∷ s) ts i = any_by (is_var x) ts && guarded (suc x) s ts i
guarded x (tmp ∷ s) ts i = eqb x i && guarded (suc x) s ts i

abbrev pub fit : List Sort → Formula → Bool
fit scope absurdity = true
fit scope (is a) = atom_fits scope a
fit scope (isnt a) = atom_fits scope a
fit scope (both f g) = fit scope f && fit scope g
fit scope (either f g) = fit scope f && fit scope g
fit scope (exists s g i f) = pattern_fits (scope ++ s) g i && (guarded (length scope) s g.terms i && fit (scope ++ s) f)
fit scope (every s g i f) = pattern_fits (scope ++ s) g i && (guarded (length scope) s g.terms i && fit (scope ++ s) f)
