-- What judge and walk ask and promise.
use Rattle.std.specs.Prelude.{ℕ, ◌+◌, ◌≤◌, List, [], ◌++◌, Bool, true, ◌≡◌, length, Option, Some}
use Rattle.std.specs.Option.{is_some}
use Rattle.lists.specs.Lists.{any_by}
use Rattle.number.specs.Groups.{number_limit}
use Rattle.number.specs.Reading.{Read, got}
use Rattle.property.specs.Figures.{most_scope}
use Rattle.property.specs.Formula.{Sort, Atom, Formula}
use Rattle.property.specs.Formula.Limits.{ScopesBelow}
use Rattle.property.specs.Fit.{fit, pattern_fits, atom_fits, guarded}
use Rattle.property.specs.Meaning.{Value, Entry, Trace}
use Rattle.property.specs.Layout.{Timed, head_of, quantified, property}
use Rattle.property.specs.Reads.{Reads}
use Rattle.property.specs.Judge.{judge, test, matches, extended, entries_from}
use Rattle.judge.specs.declared.reading.Coded.{Coded}
use Rattle.judge.specs.declared.reading.Guard.{Guard}
use Rattle.judge.specs.declared.judging.Judged.{Judged}
use Rattle.judge.specs.declared.entries.Tables.{Tables}
use Rattle.property.specs.Judge.Numbers.{numbers}
use Rattle.judge.specs.Tables.{Shape, Arities, trace_of, entry_of}
use Rattle.judge.specs.Bindings.{bound}
use Rattle.judge.specs.Reading.{Carries}
-- a guard against an entry
pub mod Guards
-- readings go forward; a formula by its tag
pub mod Forward
pub mod Formulas
-- the walk over the entries; an atom by its tag
pub mod Walking
pub mod Atoms
-- what the returns say and the calls ask, tag by tag
pub mod Returns

-- ── a formula at a place ──
-- the arities and the scope that it stands under, and the place behind it
pub record Written : Type 0 where
  pub ars : List ℕ
  pub scope : List Sort
  pub formula : Formula
  pub end : ℕ

abbrev pub written_of : List ℕ → List Sort → Formula → ℕ → Written
written_of ars scope φ k = record { ars = ars; scope = scope; formula = φ; end = k }

-- it stands there
pub record Formed (file table : List ℕ) (at : ℕ) (w : Written) : Type 0 where
  pub arities : Arities table w.ars
  pub reads : Reads file w.ars at w.formula w.end

-- it is fit and within the limits too, with n variables in scope
pub record Fits (file table : List ℕ) (at n : ℕ) (w : Written) : Type 0 where
  pub formed : Formed file table at w
  pub size : length w.scope ≡ n
  pub few : n ≤ most_scope
  pub fits : fit w.scope w.formula ≡ true
  pub within : ScopesBelow number_limit w.ars (length w.scope) w.formula

-- the whole file is a property that is read and fit
pub record Property (file table ars : List ℕ) (φ : Formula) : Type 0 where
  pub arities : Arities table ars
  pub end : ℕ
  pub reads : property file ars ≡ got φ end
  pub fits : fit [] φ ≡ true

-- ── an atom ──
pub record Stated : Type 0 where
  pub ars : List ℕ
  pub scope : List Sort
  pub atom : Atom
  pub end : ℕ

-- it is read so, and fit, with n variables in scope
pub record AtomIs (table : List ℕ) (read : List ℕ → Read Atom) (n : ℕ) (x : Stated) : Type 0 where
  pub arities : Arities table x.ars
  pub reads : read x.ars ≡ got x.atom x.end
  pub size : length x.scope ≡ n
  pub few : n ≤ most_scope
  pub fits : atom_fits x.scope x.atom ≡ true

-- ── a guard ──
-- a fact with its time under a scope, where the variables of these sorts are new
pub record Guarded : Type 0 where
  pub ars : List ℕ
  pub scope : List Sort
  pub sorts : List Sort
  pub guard : Timed

-- it is fit, and code has it so
pub record Fitting (n : ℕ) (c : Coded) (x : Guarded) : Type 0 where
  pub size : length x.scope ≡ n
  pub few : length (x.scope ++ x.sorts) ≤ most_scope
  pub carries : Carries x.ars x.guard c
  pub fits : pattern_fits (x.scope ++ x.sorts) x.guard.pattern x.guard.time ≡ true
  pub guards : guarded (length x.scope) x.sorts x.guard.pattern.terms x.guard.time ≡ true

-- and the formula stands behind it
pub record Bodied (file table : List ℕ) (h : Guard) (n : ℕ) (x : Guarded) (φ : Formula) (k : ℕ) : Type 0 where
  pub fitting : Fitting n h.fact x
  pub fresh : h.fresh ≡ length x.sorts
  pub body : Fits file table h.fact.next (n + h.fresh) (written_of x.ars (x.scope ++ x.sorts) φ k)

-- ── what is promised: the definition's answer over class numbers ──
module _ (base : ℕ) (b : List ℕ) where
  -- what the entry binds the variables to, and whether it is the guard's fact
  abbrev pub binds_to : Guarded → Entry ℕ → List (Value ℕ ℕ)
  binds_to x e = extended (numbers base) (bound x.scope b) x.sorts x.guard.pattern e

  abbrev pub meets : Guarded → Entry ℕ → Bool
  meets x e = matches (numbers base) (binds_to x e) x.guard.pattern x.guard.time e

-- the guard against entry e of a node
pub record Matching (symbols classes : List ℕ) (base : ℕ) (b : List ℕ) (node e : ℕ) (r : Option (List ℕ)) (x : Guarded) : Type 0 where
  pub matched : is_some r ≡ meets base b x (entry_of x.ars symbols classes node e)
  pub binds : (v : List ℕ) → r ≡ Some v → bound (x.scope ++ x.sorts) v ≡ binds_to base b x (entry_of x.ars symbols classes node e)

-- of an atom, whatever the trace is under the arities
pub record AtomSaid (tr : List ℕ → Trace ℕ) (base : ℕ) (b : List ℕ) (r : Judged) (x : Stated) : Type 0 where
  pub truth : r.truth ≡ test (numbers base) (tr x.ars) (bound x.scope b) x.atom
  pub next : r.next ≡ x.end

module _ (starts symbols classes : List ℕ) where
  abbrev pub traced : List ℕ → Trace ℕ
  traced ars = trace_of ars symbols classes starts

module _ (starts symbols classes : List ℕ) (base : ℕ) where
  abbrev pub truth_of : List ℕ → List Sort → List ℕ → Formula → Bool
  truth_of ars scope b φ = judge (numbers base) (traced starts symbols classes ars) (bound scope b) φ

  -- whether the fact occurs at its time
  pub record Occurs (b : List ℕ) (r : Bool) (x : Guarded) : Type 0 where
    pub found :
        r ≡ any_by (matches (numbers base) (bound (x.scope ++ x.sorts) b) x.guard.pattern x.guard.time)
        (entries_from 1 (traced starts symbols classes x.ars))

  pub record Says (b : List ℕ) (r : Judged) (w : Written) : Type 0 where
    pub truth : r.truth ≡ truth_of w.ars w.scope b w.formula
    pub next : r.next ≡ w.end

  -- the quantifier of a guard and its body
  pub record Walked (every : Bool) (b : List ℕ) (r : Judged) (x : Guarded) (φ : Formula) (k : ℕ) : Type 0 where
    pub truth : r.truth ≡ truth_of x.ars x.scope b (quantified every (head_of x.sorts x.guard) φ)
    pub next : r.next ≡ k

-- the same, of the tables as code has them
module _ (t : Tables) where
  abbrev pub Shaped : Type 0
  Shaped = Shape t.starts.now t.symbols.now t.classes.now

  abbrev pub OccursIn : List ℕ → Bool → Guarded → Type 0
  OccursIn = Occurs t.starts.now t.symbols.now t.classes.now t.base

  abbrev pub AtomSaidIn : List ℕ → Judged → Stated → Type 0
  AtomSaidIn = AtomSaid (traced t.starts.now t.symbols.now t.classes.now) t.base

  abbrev pub SaysIn : List ℕ → Judged → Written → Type 0
  SaysIn = Says t.starts.now t.symbols.now t.classes.now t.base

  abbrev pub WalkedIn : Bool → List ℕ → Judged → Guarded → Formula → ℕ → Type 0
  WalkedIn = Walked t.starts.now t.symbols.now t.classes.now t.base
