-- What code tells of whatever stands at a place of a property file: a number, a term, k sorts, k terms, a fact with its time, a guard.
use Rattle.std.specs.Prelude.{ℕ, ◌+◌, ◌≤◌, ◌<◌, List, map, ◌≡◌, length, get_or, take}
use Rattle.number.specs.Groups.{number_limit}
use Rattle.number.specs.Reading.{got, read_number, many}
use Rattle.protocol.specs.Figures.{most_fact_arity}
use Rattle.property.specs.Figures.{most_scope}
use Rattle.property.specs.Formula.{Sort, Term, Atom}
use Rattle.property.specs.Layout.{Timed, Head, term_at, sort_at, timed_at, head_at, atom_at}
use Rattle.judge.specs.declared.reading.Num.{Num}
use Rattle.judge.specs.declared.reading.Codes.{Codes}
use Rattle.judge.specs.declared.reading.Coded.{Coded}
use Rattle.judge.specs.declared.reading.Guard.{Guard}
use Rattle.judge.specs.Tables.{Arities}
use Rattle.judge.specs.Bindings.{code}
-- code that reads the parts tells the whole
pub mod Parts
-- sorts and terms one after another
pub mod Lists

pub record NumberIs (file : List ℕ) (at : ℕ) (r : Num) : Type 0 where
  pub small : r.value < number_limit
  pub says : (v e : ℕ) → read_number file at ≡ got v e → (r.value ≡ v) × (r.next ≡ e)

pub record TermIs (file : List ℕ) (at : ℕ) (r : Num) : Type 0 where
  pub small : r.value < most_scope + number_limit
  pub says : (t : Term) (e : ℕ) → term_at file at ≡ got t e → (r.value ≡ code t) × (r.next ≡ e)

pub record SortsAre (file : List ℕ) (at k r : ℕ) : Type 0 where
  pub says : (s : List Sort) (e : ℕ) → many (sort_at file) k at ≡ got s e → r ≡ e

pub record TermsAre (file : List ℕ) (at k : ℕ) (r : Codes) : Type 0 where
  pub says : (ts : List Term) (e : ℕ) → many (term_at file) k at ≡ got ts e → (take k r.codes ≡ map code ts) × (r.next ≡ e)

-- a fact and its time variable, as code has them
pub record Carries (ars : List ℕ) (g : Timed) (c : Coded) : Type 0 where
  pub symbols : c.symbol ≡ g.pattern.symbol
  pub counts : c.count ≡ length g.pattern.terms
  pub arity : c.count ≡ get_or ars g.pattern.symbol 0
  pub times : c.time ≡ g.time
  pub coded : take c.count c.codes ≡ map code g.pattern.terms

pub record FactIs (file table : List ℕ) (at : ℕ) (r : Coded) : Type 0 where
  pub few : r.count ≤ most_fact_arity
  pub says : (ars : List ℕ) → Arities table ars → (g : Timed) (e : ℕ) → timed_at file ars at ≡ got g e → Carries ars g r × (r.next ≡ e)

-- what stands before a quantifier's body
pub record HeadIs (file table : List ℕ) (at : ℕ) (r : Guard) : Type 0 where
  pub few : r.fact.count ≤ most_fact_arity
  pub says :
      (ars : List ℕ) → Arities table ars → (h : Head) (e : ℕ) → head_at file ars at ≡ got h e
      → (r.fresh ≡ length h.sorts) × (Carries ars h.guard r.fact × (r.fact.next ≡ e))

-- the place behind an atom
pub record AtomEnds (file table : List ℕ) (tag at r : ℕ) : Type 0 where
  pub ends : (ars : List ℕ) → Arities table ars → (a : Atom) (k : ℕ) → atom_at file ars tag at ≡ got a k → r ≡ k
