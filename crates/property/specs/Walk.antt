-- What code answers of a property file: the place behind each part, and whether its variables are as cause 5 asks.
use Rattle.std.specs.Prelude.{ℕ, ◌+◌, ◌≤◌, ◌<◌, List, ◌++◌, Bool, ◌&&◌, ◌≡◌, length, get_or, map, take, drop, ltb, eqb, Option, Some, None}
use Rattle.lists.specs.Choice.{pick}
use Rattle.lists.specs.Lists.{any_by, all_by}
use Rattle.lists.specs.All.{All}
use Rattle.number.specs.Reading.{Read, got, fault, and_then, read_number, many}
use Rattle.term.specs.Arity.{undeclared, padded}
use Rattle.protocol.specs.Figures.{message_sort, symbol_count}
use Rattle.property.specs.Formula.{Sort, msg, tmp, Term, var, public}
use Rattle.property.specs.Fit.{in_scope, term_fits, pattern_fits, is_var, guarded}
use Rattle.property.specs.Layout.{Timed, Head, head_of, term_at, sort_at, timed_at}
use Rattle.property.specs.declared.terms.Sort as code
use Rattle.property.specs.declared.terms.Sort.TheVariants as sort
use Rattle.property.specs.declared.facts.Guard.{Guard}
use Rattle.property.specs.declared.heads.Opened.{Opened}
-- readings one after another, and several, with a test of each
pub mod Chain
-- the sorts in scope, and terms
pub mod Terms
-- facts with their time variables, and atoms
pub mod Facts
-- what stands before a quantifier's body
pub mod Heads
-- formulas, and the whole file
pub mod Formulas

-- ── the sorts in scope, as code has them ──
abbrev pub sort_of : code.Sort → Sort
sort_of sort.Message = msg
sort_of sort.Time = tmp

-- the sort that a byte says
abbrev pub byte_sort : ℕ → Sort
byte_sort v = pick (eqb v message_sort) msg tmp

abbrev pub scope_of : List code.Sort → List Sort
scope_of l = map sort_of l

-- ── what was seen: the place behind it, and the test ──
abbrev pub Saw : Type 0
Saw = Option (ℕ × Bool)

abbrev pub saw : ℕ → Bool → Saw
saw e b = Some (e, b)

-- a test before it
abbrev pub also : Bool → Saw → Saw
also b (Some (e, c)) = Some (e, b && c)
also b None = None

-- ── terms ──
-- a term's variable
abbrev pub variable_of : Term → Option ℕ
variable_of (var x) = Some x
variable_of (public n) = None

abbrev pub leaf_of : Read Term → Option (Option ℕ × ℕ)
leaf_of (got t e) = Some (variable_of t, e)
leaf_of fault = None

-- ── facts ──
-- a table of arities: as many slots as there can be symbols, those of no symbol undeclared
pub record Tabled (table ars : List ℕ) : Type 0 where
  pub tabled : table ≡ padded symbol_count ars
  pub few : length ars ≤ symbol_count
  pub small : All (λ a. a < undeclared) ars

-- the arity that a slot of the table has
abbrev pub declared : ℕ → Option ℕ
declared a = pick (eqb a undeclared) None (Some a)

-- a fact with its time variable, and where its terms stand
pub record Placed : Type 0 where
  pub place : ℕ
  pub symbol : ℕ
  pub terms : List Term
  pub time : ℕ

abbrev pub placed_of : ℕ → ℕ → List Term → ℕ → Placed
placed_of p y ts i = record { place = p; symbol = y; terms = ts; time = i }

module _ (file ars : List ℕ) where
  -- from behind the symbol y
  abbrev pub guard_from : ℕ → ℕ → Read Placed
  guard_from y at =
      pick (ltb y (length ars))
      (and_then (many (term_at file) (get_or ars y 0) at) (λ ts e. and_then (read_number file e) (λ i d. got (placed_of at y ts i) d)))
      fault

  abbrev pub guard_at : ℕ → Read Placed
  guard_at at = and_then (read_number file at) (λ y e. guard_from y e)

abbrev pub guard_of : ℕ → ℕ → ℕ → ℕ → Bool → Guard
guard_of p c i e b = record { terms = p; count = c; time = i; end = e; fits = b }

module _ (scope : List Sort) where
  abbrev pub placed_fits : Placed → Bool
  placed_fits g = all_by (term_fits scope) g.terms && in_scope scope g.time tmp

  abbrev pub as_guard : Read Placed → Option Guard
  as_guard (got g e) = Some (guard_of g.place (length g.terms) g.time e (placed_fits g))
  as_guard fault = None

  abbrev pub guard_timed : ℕ → ℕ → Bool → Read ℕ → Option Guard
  guard_timed terms count fits (got i e) = Some (guard_of terms count i e (fits && in_scope scope i tmp))
  guard_timed terms count fits fault = None

-- ── what stands before a quantifier's body ──
abbrev pub as_sort : Option (code.Sort × ℕ) → Read Sort
as_sort (Some (s, e)) = got (sort_of s) e
as_sort None = fault

-- sorts that were read into a slice
abbrev pub as_sorts : Option ℕ → List Sort → Read (List Sort)
as_sorts (Some e) l = got l e
as_sorts None l = fault

-- a new variable is in its guard
abbrev pub in_guard : Sort → ℕ → List Term → ℕ → Bool
in_guard msg x ts i = any_by (is_var x) ts
in_guard tmp x ts i = eqb x i

-- a guard of a quantifier with new variables of these sorts
abbrev pub guard_fits : List Sort → List Sort → Timed → Bool
guard_fits scope s g =
    pattern_fits (scope ++ s) g.pattern g.time && guarded (length scope) s g.pattern.terms g.time

abbrev pub opened_of : ℕ → ℕ → Bool → Opened
opened_of m e b = record { count = m; end = e; fits = b }

-- the new variables are those from n on
pub record GuardRead (file ars : List ℕ) (at : ℕ) (sorts : List Sort) (n : ℕ) (o : Opened) : Type 0 where
  pub guard : Timed
  pub there : timed_at file ars at ≡ got guard o.end
  pub count : o.count ≡ length sorts
  pub right : o.fits ≡ guard_fits (take n sorts) (drop n sorts) guard

abbrev pub GuardIs : List ℕ → List ℕ → ℕ → List Sort → ℕ → Option Opened → Type 0
GuardIs file ars at sorts n (Some o) = GuardRead file ars at sorts n o
GuardIs file ars at sorts n None = timed_at file ars at ≡ fault

-- from behind the count of new variables
abbrev pub head_from : List ℕ → List ℕ → ℕ → ℕ → Read Head
head_from file ars k at = and_then (many (sort_at file) k at) (λ s e. and_then (timed_at file ars e) (λ g d. got (head_of s g) d))

pub record HeadRead (r : Read Head) (n : ℕ) (old new : List Sort) (o : Opened) : Type 0 where
  pub head : Head
  pub there : r ≡ got head o.end
  pub count : o.count ≡ n + length head.sorts
  pub scope : take o.count new ≡ take n old ++ head.sorts
  pub right : o.fits ≡ guard_fits (take n old) head.sorts head.guard

abbrev pub HeadIs : Read Head → ℕ → List Sort → List Sort → Option Opened → Type 0
HeadIs r n old new (Some o) = HeadRead r n old new o
HeadIs r n old new None = r ≡ fault
