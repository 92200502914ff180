-- The sections of a prepared protocol, one behind the other: their lengths, their starts, and that they are apart.
use Rattle.std.specs.Prelude.{ℕ, ◌+◌, ◌*◌, ◌≤◌}
use Rattle.std.proofs.Common.{arith}
use Rattle.term.specs.Tags.{tag_count}
use Rattle.protocol.specs.Figures.{symbol_count, list_count, most_facts}
use Rattle.rules.specs.Numbered.{rule_room, number_count}
use Rattle.rules.specs.Numbered.Slots.{written_count}

-- ── how many ──
-- tags; fact symbols, the four built-in ones among them; rule numbers
abbrev pub slot_count : ℕ
slot_count = tag_count

abbrev pub rule_count : ℕ
rule_count = number_count

-- three lists of each rule number; those, and eight facts of each
abbrev pub entry_count : ℕ
entry_count = list_count * rule_count

abbrev pub place_count : ℕ
place_count = entry_count + most_facts * entry_count

-- "Protocol (4,096 bytes)"
abbrev pub file_limit : ℕ
file_limit = 4096

-- a place takes two bytes, the high one first
abbrev pub place_bytes : ℕ
place_bytes = 2

abbrev pub place_base : ℕ
place_base = 256

abbrev pub place_limit : ℕ
place_limit = place_base * place_base

-- ── the starts ──
-- the arity of each tag stands first; then the arity of each fact symbol, 1 where it is linear, the place of each rule number in two
-- bytes, the bytes of the built-in rules and apply-rules, the file's bytes
abbrev pub arities_at : ℕ
arities_at = slot_count

abbrev pub linears_at : ℕ
linears_at = arities_at + symbol_count

abbrev pub places_at : ℕ
places_at = linears_at + symbol_count

abbrev pub rules_at : ℕ
rules_at = places_at + place_bytes * rule_count

abbrev pub file_at : ℕ
file_at = rules_at + rule_room * written_count

-- all but the places of the rules' lists and of their facts, which stand behind it in two bytes each
abbrev pub body_length : ℕ
body_length = file_at + file_limit

abbrev pub table_length : ℕ
table_length = place_bytes * place_count

abbrev pub prepared_length : ℕ
prepared_length = body_length + table_length

-- the two bytes of rule number n
abbrev pub cell_at : ℕ → ℕ
cell_at n = places_at + place_bytes * n

-- the two bytes of entry k of that table
abbrev pub entry_place : ℕ → ℕ
entry_place k = body_length + place_bytes * k

-- the entry of the first fact of the list that has entry k
abbrev pub fact_row : ℕ → ℕ
fact_row k = entry_count + most_facts * k

-- the bytes of the rule that is written out in slot s
abbrev pub written_at : ℕ → ℕ
written_at s = rules_at + rule_room * s

-- ── each starts where the one before ends ──
pub record Apart : Type 0 where
  pub slots_end : slot_count ≤ arities_at
  pub arities_end : arities_at + symbol_count ≤ linears_at
  pub linears_end : linears_at + symbol_count ≤ places_at
  pub places_end : cell_at rule_count ≤ rules_at
  pub rules_end : written_at written_count ≤ file_at
  pub file_end : file_at + file_limit ≤ body_length
  pub lists_end : entry_count ≤ fact_row 0
  pub facts_end : entry_place (fact_row entry_count) ≤ prepared_length

pub apart : Apart
apart = record {
  slots_end = omega arith;
  arities_end = omega arith;
  linears_end = omega arith;
  places_end = omega arith;
  rules_end = omega arith;
  file_end = omega arith;
  lists_end = omega arith;
  facts_end = omega arith;
}
