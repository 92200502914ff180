-- What the index of a protocol file says of it: an arity a slot for each tag, the arity and the persistence of each fact symbol, a place
-- for each rule.
use Rattle.std.specs.Prelude.{Option, Some, None, ℕ, ◌+◌, ◌≤◌, ◌<◌, List, ◌≡◌, length, get_or, take}
use Rattle.protocol.specs.Figures.{most_own, first_own, symbol_count, most_rules}
use Rattle.number.specs.Reading.{Read, got, fault}
use Rattle.term.specs.Arity.{tag_arities}
use Rattle.protocol.specs.declared.index.Counts.{Counts}
use Rattle.protocol.specs.Protocol.{Own, Protocol, empty_rule, fact_arities, fact_flags, rule, protocol}
use Rattle.protocol.specs.Protocol.Limits.{Within}
use Rattle.protocol.specs.Places.{Here}
-- filling it
pub mod Fill
-- the whole pass
pub mod Laws

-- ── a table filled while reading ──
module _ {A : Type 0} (r : Read A) (Says : A → ℕ → Type 0) where
  -- what was read, the place behind it, and what a count says of it
  pub record ToldOf (n e : ℕ) : Type 0 where
    pub item : A
    pub there : r ≡ got item e
    pub says : Says item n

  abbrev pub Told : Option (ℕ × ℕ) → Type 0
  Told (Some (n, e)) = ToldOf n e
  Told None = r ≡ fault

-- the slots are of these functions
abbrev pub Slotted : List ℕ → List ℕ → ℕ → Type 0
Slotted arities fs n = arities ≡ tag_arities fs

-- the tables have the n own symbols behind the four built-in ones
pub record Tabled (ars flags : List ℕ) (os : List Own) (n : ℕ) : Type 0 where
  pub count : length os ≡ n
  pub few : n ≤ most_own
  pub arities : take (n + first_own) ars ≡ fact_arities os
  pub flagged : take (n + first_own) flags ≡ fact_flags os

-- the n things stand at their places
pub record Placed {A : Type 0} (p : ℕ → Read A) (d : A) (places : List ℕ) (xs : List A) (n : ℕ) : Type 0 where
  pub count : length xs ≡ n
  pub each : (k : ℕ) → k < n → Here p (get_or xs k d) (get_or places k 0)

-- ── the index of ns fact symbols, the four built-in ones among them, and nr rules ──
pub record Entries (file : List ℕ) (ns nr : ℕ) (arities ars flags places : List ℕ) : Type 0 where
  pub is : Protocol
  pub reads : protocol file ≡ got is (length file)
  pub within : Within is
  pub slotted : arities ≡ tag_arities is.functions
  pub tabled : take ns ars ≡ fact_arities is.symbols
  pub flagged : take ns flags ≡ fact_flags is.symbols
  pub count : length is.symbols + first_own ≡ ns
  pub few_symbols : ns ≤ symbol_count
  pub few_rules : nr ≤ most_rules
  pub placed : Placed (rule file arities (take ns ars)) empty_rule places is.rules nr

-- the counts and the right entries, or a fault, just as the definition says
abbrev pub Indexed : List ℕ → Option Counts → List ℕ → List ℕ → List ℕ → List ℕ → Type 0
Indexed file (Some c) arities ars flags places = Entries file c.symbols c.rules arities ars flags places
Indexed file None arities ars flags places = protocol file ≡ fault
