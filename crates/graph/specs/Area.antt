-- The map of the work area: the regions that the calls write into, and that no byte belongs to two of them.
use Rattle.std.specs.Prelude.{ℕ, ◌+◌, ◌-◌, ◌*◌, ◌≤◌, ◌<◌, List, ◌≡◌, length, take, drop}
use Rattle.std.proofs.Common.{arith, length-drop, length-take-le}
use Rattle.facts.specs.Writing.{fact_room}
use Rattle.facts.specs.Calls.{Room}
use Rattle.graph.specs.Uses.{count_table}

-- the bytes from one place up to another
pub record Region : Type 0 where
  pub from : ℕ
  pub to : ℕ

-- how often each fact is an end of an edge
abbrev pub counts : Region
counts = record { from = 0; to = count_table }

-- the canonical bytes of two facts
abbrev pub facts : Region
facts = record { from = count_table; to = count_table + 2 * fact_room }

-- a work area that has all regions
abbrev pub Area : List ℕ → Type 0
Area work = facts.to ≤ length work

-- ── laws ──
abbrev pub In : Region → ℕ → Type 0
In r i = (r.from ≤ i) × (i < r.to)

pub apart : (i : ℕ) → In counts i → In facts i → ⊥
apart i a b = omega (arith, a.1, b.0)

-- the part of the work area that is a region
abbrev pub part : Region → List ℕ → List ℕ
part r work = take (r.to - r.from) (drop r.from work)

module _ (work : List ℕ) (area : Area work) where
  pub facts_length : length (part facts work) ≡ 2 * fact_room
  facts_length = length-take-le (2 * fact_room) (drop count_table work) (omega (arith, length-drop count_table work))

  pub facts_room : Room (part facts work) fact_room
  facts_room = record { enough = omega (arith, facts_length); short = omega (arith, facts_length) }
