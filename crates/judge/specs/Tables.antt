-- The trace in numbers: for each node the number of action entries before it, for each entry its symbol, for each argument its class number.
use Rattle.std.specs.Prelude.{ℕ, suc, ◌+◌, ◌-◌, ◌*◌, ◌≤◌, ◌<◌, List, ◌≡◌, length, get_or, drop, leb}
use Rattle.lists.specs.Choice.{pick}
use Rattle.lists.specs.Lists.{row}
use Rattle.octets.specs.Limits.{longest}
use Rattle.protocol.specs.Figures.{symbol_count, most_fact_arity}
use Rattle.property.specs.Meaning.{Fact, Entry, Trace}
use Rattle.property.specs.Judge.{entries_from}
-- the entries in order
pub mod Entries

module _ (classes : List ℕ) (e : ℕ) where
  -- argument j of entry e stands at 8 e + j: a fact has eight arguments at most
  abbrev pub class_at : ℕ → ℕ
  class_at j = get_or classes (most_fact_arity * e + j) 0

-- under the arities of the fact symbols
module _ (ars symbols classes : List ℕ) where
  abbrev pub fact_of : ℕ → Fact ℕ
  fact_of e = record { symbol = get_or symbols e 0; messages = row (class_at classes e) (get_or ars (get_or symbols e 0) 0) }

  -- node k, from 0: its entries end where those of the next begin
  abbrev pub facts_at : List ℕ → ℕ → List (Fact ℕ)
  facts_at starts k = row (λ i. fact_of (get_or starts k 0 + i)) (get_or starts (k + 1) 0 - get_or starts k 0)

  -- behind the last node's start stands the count of all entries
  abbrev pub trace_of : List ℕ → Trace ℕ
  trace_of starts = row (facts_at starts) (length starts - 1)

  -- entry e, of the node of that number from 0; document 01 numbers nodes from 1
  abbrev pub entry_of : ℕ → ℕ → Entry ℕ
  entry_of node e = record { node = suc node; fact = fact_of e }

  -- the entries from e on
  unfoldable pub rest : List ℕ → ℕ → List (Entry ℕ)
  rest starts e = drop e (entries_from 1 (trace_of starts))

-- ── the shape of the tables ──
-- how many entries there are
abbrev pub total : List ℕ → ℕ
total starts = get_or starts (length starts - 1) 0

pub record Shape (starts symbols classes : List ℕ) : Type 0 where
  pub some : 0 < length starts
  pub few : length starts ≤ longest
  pub first : get_or starts 0 0 ≡ 0
  pub ascends : (i : ℕ) → i + 1 < length starts → get_or starts i 0 ≤ get_or starts (i + 1) 0
  pub known : total starts ≤ length symbols
  pub wide : most_fact_arity * total starts ≤ length classes

-- a table that has the arity of each symbol, and anything behind them
pub record Arities (table ars : List ℕ) : Type 0 where
  pub few : length ars ≤ symbol_count
  pub small : (i : ℕ) → get_or ars i 0 ≤ most_fact_arity
  pub same : (i : ℕ) → i < length ars → get_or table i 0 ≡ get_or ars i 0

-- the arity of a symbol in it; 0 for what is none
abbrev pub arity_in : List ℕ → ℕ → ℕ
arity_in table y = pick (leb (get_or table y 0) most_fact_arity) (get_or table y 0) 0

-- ── as code walks them ──
-- entry e is not before the node's first
pub record Past (starts : List ℕ) (node e : ℕ) : Type 0 where
  pub inside : node < length starts
  pub begun : get_or starts node 0 ≤ e

-- entry e is one of the node's
pub record Of (starts : List ℕ) (node e : ℕ) : Type 0 where
  pub inside : node + 1 < length starts
  pub begun : get_or starts node 0 ≤ e
  pub before : e < get_or starts (node + 1) 0
