-- Filling a prepared protocol: what is asked of the tables of a protocol file, and what each step leaves.
use Rattle.std.specs.Prelude.{ℕ, ◌+◌, ◌≤◌, ◌<◌, List, ◌≡◌, length, get_or}
use Rattle.std.specs.Prelude.{Some, None, Result, Ok, Err}
use Rattle.octets.specs.Head.{Bytes, Stands}
use Rattle.number.specs.Reading.{got}
use Rattle.protocol.specs.Protocol.{Rule, Protocol, fact_arities, fact_flags, encode_rule, protocol}
use Rattle.protocol.specs.Index.{Entries}
use Rattle.rules.specs.Numbered.{rule_of}
use Rattle.protocol.specs.declared.index.Counts.{Counts}
use Rattle.rules.specs.declared.fit.Unfit.{Unfit}
use Rattle.rules.specs.Numbered.{rule_room}
use Rattle.rules.specs.Numbered.Slots.{slot_of}
use Rattle.prepared.specs.Sections.{file_limit, places_at, rules_at, file_at, cell_at, written_at}
use Rattle.prepared.specs.Pairs.{paired}
use Rattle.prepared.specs.Prepared.{place_at, Body}
-- bytes that stand somewhere; lists filled up with 255
pub mod Lists
-- one rule number after another
pub mod Numbers
-- the whole
pub mod Whole

-- ── what is asked ──
-- the tables are of a protocol file
pub record Source (arities places : List ℕ) (nr : ℕ) : Type 0 where
  pub file : List ℕ
  pub ns : ℕ
  pub ars : List ℕ
  pub flags : List ℕ
  pub entries : Entries file ns nr arities ars flags places
  pub bytes : Bytes file
  pub short : length file ≤ file_limit

-- of this one, with the arities and flags of just its fact symbols
pub record Laid (file arities ars flags places : List ℕ) (nr : ℕ) : Type 0 where
  pub source : Source arities places nr
  pub file_is : file ≡ source.file
  pub ars_are : ars ≡ fact_arities source.entries.is.symbols
  pub flags_are : flags ≡ fact_flags source.entries.is.symbols

-- ── a rule number ──
-- its place written
abbrev pub placed : List ℕ → ℕ → ℕ → List ℕ
placed p n v = paired p (cell_at n) v

-- these bytes lie in p from a place on
abbrev pub Lies : List ℕ → ℕ → List ℕ → Type 0
Lies p at q = (j : ℕ) → j < length q → get_or p (at + j) 0 ≡ get_or q j 0

-- its rule is written out in p; or it has a place in the file; or there is none
module _ {arities places : List ℕ} {nr : ℕ} (f : Source arities places nr) (p : List ℕ) (n : ℕ) where
  pub data Row : Type 0 where
    written :
        (u : Rule) → rule_of f.entries.is n ≡ Some u → slot_of n < slot_of (n + 1) → place_at p n ≡ written_at (slot_of n) → length (encode_rule u) ≤ rule_room
        → Lies p (written_at (slot_of n)) (encode_rule u) → Row
    in_file : (u : Rule) (k e : ℕ) → rule_of f.entries.is n ≡ Some u → place_at p n ≡ file_at + k → k ≤ length f.file → Stands f.file k (encode_rule u) e
        → Row
    missing : rule_of f.entries.is n ≡ None → place_at p n ≡ 0 → Row

-- entering a number changes nothing before its two bytes, and of the rules written out none before its own
pub record Kept (p p' : List ℕ) (n : ℕ) : Type 0 where
  pub low : (i : ℕ) → i < cell_at n → get_or p' i 0 ≡ get_or p i 0
  pub high : (i : ℕ) → rules_at ≤ i → i < written_at (slot_of n) → get_or p' i 0 ≡ get_or p i 0

pub record Enters {arities places : List ℕ} {nr : ℕ} (f : Source arities places nr) (p p' : List ℕ) (n : ℕ) : Type 0 where
  pub row : Row f p' n
  pub kept : Kept p p' n

-- the first n numbers are entered, and the sections before them are as they were
pub record Rows {arities places : List ℕ} {nr : ℕ} (f : Source arities places nr) (p p' : List ℕ) (n : ℕ) : Type 0 where
  pub each : (m : ℕ) → m < n → Row f p' m
  pub before : (i : ℕ) → i < places_at → get_or p' i 0 ≡ get_or p i 0

-- ── what is promised ──
pub record BodyAs (file : List ℕ) (nr : ℕ) (p : List ℕ) : Type 0 where
  pub its : Protocol
  pub reads : protocol file ≡ got its (length file)
  pub is : Body p its
  pub count : length its.rules ≡ nr

abbrev pub WhereBody : List ℕ → Result Counts Unfit → List ℕ → Type 0
WhereBody file (Ok c) p = BodyAs file c.rules p
WhereBody file (Err u) p = Unit {0}
