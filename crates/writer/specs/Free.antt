-- The free conclusions: those of the nodes so far, less the linear ones that are used. Their table has an entry for each conclusion that a node
-- can have: 0 where none is free there, else the fact's mark and one.
use Rattle.std.specs.Prelude.{ℕ, zero, suc, ◌*◌, ◌/◌, ◌%◌, ◌≤◌, ◌<◌, List, [], ◌∷◌, ◌++◌, ◌≡◌, length, get_or}
use Rattle.rewriting.specs.Graph.{Place}
use Rattle.rewriting.specs.Places.{Placed}
use Rattle.protocol.specs.Figures.{most_facts, conclusion_list}
use Rattle.protocol.specs.Protocol.{Fact, Protocol}
use Rattle.steps.specs.Nodes.{Node, no_node}
use Rattle.steps.specs.Facts.{facts_of}
use Rattle.facts.specs.declared.nodes.FactId.{FactId}
use Rattle.facts.specs.Calls.{fact_at}
use Rattle.facts.specs.Marks.{mark_of}
use Rattle.graph.specs.Graph.{place_of}
-- the first that passes a test, one taken, one more
pub mod Laws

-- ── the elements of the first numbers whose entry is not 0 ──
module _ {A : Type 0} where
  abbrev pub held_at : ℕ → A → List A
  held_at zero a = []
  held_at (suc m) a = a ∷ []

  module _ (item : ℕ → A) (free : List ℕ) where
    abbrev pub free_to : ℕ → List A
    free_to zero = []
    free_to (suc v) = free_to v ++ held_at (get_or free v 0) (item v)

-- ── entry v: conclusion v % 8 of node v / 8, both from 0 ──
abbrev pub entry_id : ℕ → FactId
entry_id v = record { node = v / most_facts; list = conclusion_list; number = v % most_facts }

abbrev pub entry_place : ℕ → Place
entry_place v = place_of (suc (v / most_facts)) (suc (v % most_facts))

abbrev pub entry_fact : Protocol → List Node → ℕ → Fact
entry_fact P xs v = fact_at P conclusion_list (v % most_facts) (get_or xs (v / most_facts) no_node)

abbrev pub entry_placed : Protocol → List Node → ℕ → Placed Fact
entry_placed P xs v = record { place = entry_place v; fact = entry_fact P xs v }

-- an entry with a mark is that of a conclusion that is there
pub record EntryIs (P : Protocol) (xs : List Node) (v m : ℕ) : Type 0 where
  pub node : v / most_facts < length xs
  pub listed : v % most_facts < length (facts_of P conclusion_list (get_or xs (v / most_facts) no_node))
  pub mark : m ≡ mark_of (entry_fact P xs v)

-- the table, long enough for the nodes and filled up to an entry
pub record Marked (free : List ℕ) (top : ℕ) (P : Protocol) (xs : List Node) : Type 0 where
  pub long : most_facts * length xs ≤ length free
  pub each : (v m : ℕ) → get_or free v 0 ≡ suc m → EntryIs P xs v m
  pub empty : (v : ℕ) → (v < top → ⊥) → get_or free v 0 ≡ 0

abbrev pub free_in : Protocol → List Node → List ℕ → ℕ → List (Placed Fact)
free_in P xs free top = free_to (entry_placed P xs) free top
