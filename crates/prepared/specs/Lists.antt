-- The places of the lists of each rule and of their facts, in a table behind the body of a prepared protocol.
use Rattle.std.specs.Prelude.{ℕ, ◌+◌, ◌*◌, ◌/◌, ◌%◌, ◌≤◌, ◌<◌, List, ◌≡◌, length}
use Rattle.std.specs.Prelude.{Some, Result, Ok, Err}
use Rattle.protocol.specs.Figures.{list_count}
use Rattle.lists.specs.Asks.{Asks}
use Rattle.number.specs.Reading.{got}
use Rattle.protocol.specs.Protocol.{Fact, Rule, Protocol, list_of, protocol}
use Rattle.protocol.specs.Places.{Here}
use Rattle.rules.specs.Numbered.{rule_of}
use Rattle.protocol.specs.declared.index.Counts.{Counts}
use Rattle.rules.specs.declared.fit.Unfit.{Unfit}
use Rattle.prepared.specs.Sections.{entry_count, entry_place, fact_row}
use Rattle.prepared.specs.Pairs.{paired}
use Rattle.prepared.specs.Prepared.{Body, body_of, entry_at, prepared_facts, ListAt, fact_place_in, Prepared}
use Rattle.prepared.specs.Finding.{RuleFound}
-- one entry, one list
pub mod Entries
-- one rule number after another
pub mod Numbers
-- behind the body
pub mod Whole

-- ── what is asked ──
-- so many facts are the first of the list at a place
pub record FirstFacts (q : List ℕ) (list count : ℕ) (fs : List Fact) : Type 0 where
  pub here : Here (prepared_facts q) fs list
  pub enough : count ≤ length fs

-- the rule of a number stands at a place
pub record ListsOf (q : List ℕ) (n place : ℕ) : Type 0 where
  pub some_protocol : Asks (Body q)
  pub found : (P : Protocol) → Body q P → RuleFound q P n place

-- ── what is written ──
-- entry k
abbrev pub entered : List ℕ → ℕ → ℕ → List ℕ
entered p k v = paired p (entry_place k) v

-- the first facts of the list at a place, from a row on; the body stays, and each entry before the row
pub record FactsEntered (list : ℕ) (p p' : List ℕ) (row count : ℕ) : Type 0 where
  pub body : body_of p' ≡ body_of p
  pub each : (i : ℕ) → i < count → entry_at p' (row + i) ≡ fact_place_in (body_of p) list i
  pub before : (j : ℕ) → j < row → entry_at p' j ≡ entry_at p j

-- the list at a place, as entry k, and its facts; the body stays, each list before it, and each fact of one
pub record ListEntered (list : ℕ) (p p' : List ℕ) (k : ℕ) : Type 0 where
  pub body : body_of p' ≡ body_of p
  pub is : entry_at p' k ≡ list
  pub each : (fs : List Fact) → Here (prepared_facts (body_of p)) fs list → (i : ℕ) → i < length fs → entry_at p' (fact_row k + i) ≡ fact_place_in (body_of p) list i
  pub lists_kept : (j : ℕ) → j < k → entry_at p' j ≡ entry_at p j
  pub facts_kept : (j : ℕ) → entry_count ≤ j → j < fact_row k → entry_at p' j ≡ entry_at p j

-- entry k is right for the list of a rule
pub record ListIn (p : List ℕ) (u : Rule) (k : ℕ) : Type 0 where
  pub here : ListAt (body_of p) u (k % list_count) (entry_at p k)
  pub each : (i : ℕ) → i < length (list_of (k % list_count) u) → entry_at p (fact_row k + i) ≡ fact_place_in (body_of p) (entry_at p k) i

-- the first k entries are right
abbrev pub Listing : List ℕ → ℕ → Type 0
Listing p k = (j : ℕ) → j < k → (P : Protocol) (u : Rule) → Body (body_of p) P → rule_of P (j / list_count) ≡ Some u → ListIn p u j

-- the first n rule numbers have their entries, if those before had, and the body stays
pub record NumberEntered (p p' : List ℕ) (n : ℕ) : Type 0 where
  pub body : body_of p' ≡ body_of p
  pub more : Listing p (list_count * n) → Listing p' (list_count * (n + 1))

-- all have, and the body stays
pub record Tabled (p p' : List ℕ) : Type 0 where
  pub body : body_of p' ≡ body_of p
  pub all : Listing p' entry_count

-- ── what is promised ──
pub record PreparedAs (file p : List ℕ) : Type 0 where
  pub its : Protocol
  pub reads : protocol file ≡ got its (length file)
  pub is : Prepared p its

abbrev pub WherePrepared : List ℕ → Result Counts Unfit → List ℕ → Type 0
WherePrepared file (Ok c) p = PreparedAs file p
WherePrepared file (Err u) p = Unit {0}
