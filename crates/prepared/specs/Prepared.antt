-- What a prepared protocol says of its protocol.
use Rattle.std.specs.Prelude.{ℕ, ◌+◌, ◌*◌, ◌≤◌, ◌<◌, List, map, ◌≡◌, length, take, drop, eqb}
use Rattle.std.specs.Prelude.{Option, Some, None}
use Rattle.lists.specs.Choice.{pick}
use Rattle.term.specs.Arity.{tag_arities, padded}
use Rattle.protocol.specs.Protocol.{Fact, Rule, Own, Protocol, list_of, fact_arities, fact_flags, fact, facts, rule}
use Rattle.protocol.specs.Protocol.Limits.{Within}
use Rattle.number.specs.Reading.{Read}
use Rattle.protocol.specs.Places.{Here, fact_place}
use Rattle.rules.specs.Numbered.{rule_of}
use Rattle.protocol.specs.Figures.{symbol_count, list_count}
use Rattle.prepared.specs.Pairs.{pair_at}
use Rattle.prepared.specs.Sections.{entry_place, slot_count, rule_count, arities_at, linears_at, cell_at, body_length, prepared_length, fact_row}
-- its laws
pub mod Laws
-- with more bytes behind it
pub mod Longer

-- ── the sections ──
abbrev pub slots_of : List ℕ → List ℕ
slots_of p = take slot_count p

abbrev pub arities_of : List ℕ → List ℕ
arities_of p = take symbol_count (drop arities_at p)

abbrev pub linears_of : List ℕ → List ℕ
linears_of p = take symbol_count (drop linears_at p)

-- 1 for a linear symbol's flag, 0 for a persistent one's
abbrev pub linear : ℕ → ℕ
linear flag = pick (eqb flag 0) 1 0

abbrev pub linears : List Own → List ℕ
linears os = map linear (fact_flags os)

-- the place of rule number n, high byte first; 0 where there is none
abbrev pub place_at : List ℕ → ℕ → ℕ
place_at p n = pair_at p (cell_at n)

-- ── what it says ──
-- the rule stands at a place of p, under the arities that p has
abbrev pub RuleAt : List ℕ → Rule → ℕ → Type 0
RuleAt p u place = Here (rule p (slots_of p) (arities_of p)) u place

pub record RuleThere (p : List ℕ) (u : Rule) (place : ℕ) : Type 0 where
  pub here : RuleAt p u place
  pub there : 0 < place

abbrev pub Entry : List ℕ → ℕ → Option Rule → Type 0
Entry p n (Some u) = RuleThere p u (place_at p n)
Entry p n None = place_at p n ≡ 0

-- all but the places of the rules' lists and of their facts
pub record Body (p : List ℕ) (P : Protocol) : Type 0 where
  pub within : Within P
  pub long : body_length ≤ length p
  pub slotted : slots_of p ≡ tag_arities P.functions
  pub tabled : arities_of p ≡ padded symbol_count (fact_arities P.symbols)
  pub flagged : linears_of p ≡ padded symbol_count (linears P.symbols)
  pub rules : (n : ℕ) → n < rule_count → Entry p n (rule_of P n)

-- the body; entry k of the table behind it
abbrev pub body_of : List ℕ → List ℕ
body_of p = take body_length p

abbrev pub entry_at : List ℕ → ℕ → ℕ
entry_at p k = pair_at p (entry_place k)

-- a list of rule n has entry 3 n + its number; a fact of it the entry of its number from the row of that list on
abbrev pub list_entry : List ℕ → ℕ → ℕ → ℕ
list_entry p n list = entry_at p (list_count * n + list)

abbrev pub fact_entry : List ℕ → ℕ → ℕ → ℕ → ℕ
fact_entry p n list i = entry_at p (fact_row (list_count * n + list) + i)

-- a fact, or the list, reads at a place under the arities that p has
abbrev pub prepared_fact : List ℕ → ℕ → Read Fact
prepared_fact p = fact p (slots_of p) (arities_of p)

abbrev pub prepared_facts : List ℕ → ℕ → Read (List Fact)
prepared_facts p = facts p (slots_of p) (arities_of p)

abbrev pub ListAt : List ℕ → Rule → ℕ → ℕ → Type 0
ListAt p u list place = Here (prepared_facts p) (list_of list u) place

-- the place of fact i of the list at a place
abbrev pub fact_place_in : List ℕ → ℕ → ℕ → ℕ
fact_place_in p place i = fact_place p (slots_of p) (arities_of p) place i

pub record Prepared (p : List ℕ) (P : Protocol) : Type 0 where
  pub long : length p ≡ prepared_length
  pub body : Body p P
  pub lists : (n list : ℕ) (u : Rule) → n < rule_count → list < list_count → rule_of P n ≡ Some u → ListAt p u list (list_entry p n list)
  pub facts : (n list i : ℕ) (u : Rule) → n < rule_count → list < list_count → i < length (list_of list u) → rule_of P n ≡ Some u
      → fact_entry p n list i ≡ fact_place_in p (list_entry p n list) i
