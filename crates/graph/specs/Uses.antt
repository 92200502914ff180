-- How often each fact of a list of the nodes is an end of an edge, in a byte for each, which stays at 2.
use Rattle.std.specs.Prelude.{ℕ, zero, suc, ◌+◌, ◌*◌, ◌-◌, ◌≤◌, ◌<◌, List, Bool, ◌≡◌, ltb, length, get_or}
use Rattle.lists.specs.Choice.{pick}
use Rattle.lists.specs.Lists.{bit, count_by}
use Rattle.rewriting.specs.Graph.{Place, Edge, same_place}
use Rattle.protocol.specs.Figures.{most_facts}
use Rattle.steps.specs.Nodes.{most_nodes}
use Rattle.graph.specs.Graph.{place_of}
use Rattle.graph.specs.Table.{edge_fields, end_at}
-- one end more; the counts are those of the edges
pub mod Laws
-- of a graph of which 10 is absent
pub mod Ends

-- ── counts that stay at 2 ──
abbrev pub capped : ℕ → ℕ
capped zero = 0
capped (suc zero) = 1
capped (suc (suc n)) = 2

abbrev pub one_more : ℕ → ℕ
one_more c = pick (ltb c 2) (c + 1) 2

-- how many of the numbers below a bound pass a test
abbrev pub count_up : (ℕ → Bool) → ℕ → ℕ
count_up q zero = 0
count_up q (suc m) = count_up q m + bit (q m)

-- ── where they stand ──
abbrev pub count_table : ℕ
count_table = most_facts * most_nodes

abbrev pub count_place : Place → ℕ
count_place a = most_facts * (a.node - 1) + (a.index - 1)

-- an end that has a count
pub record EndInside (a : Place) : Type 0 where
  pub from_one : (0 < a.node) × (0 < a.index)
  pub node_few : a.node ≤ most_nodes
  pub index_few : a.index ≤ most_facts

-- the ends at a field of m edges have counts in a table of a size
pub record EndsInside (edges : List ℕ) (m field size : ℕ) : Type 0 where
  pub inside : (j : ℕ) → j < m → EndInside (end_at edges (edge_fields * j + field))
  pub counted : (j : ℕ) → j < m → count_place (end_at edges (edge_fields * j + field)) < size
  pub listed : (j : ℕ) → j < m → edge_fields * j + field + 1 < length edges

-- ── what stands there: of fact i of node k, both from 0, where the table has its count ──
-- the ends at a field of m edges in their table
abbrev pub Counted : List ℕ → ℕ → ℕ → List ℕ → Type 0
Counted edges m field counts =
    (k i : ℕ) → i < most_facts → most_facts * k + i < length counts
    → get_or counts (most_facts * k + i) 0 ≡ capped (count_up (λ j. same_place (place_of (suc k) (suc i)) (end_at edges (edge_fields * j + field))) m)

-- one end of each edge
abbrev pub CountsOf : List ℕ → (Edge → Place) → List Edge → Type 0
CountsOf counts end es =
    (k i : ℕ) → i < most_facts → most_facts * k + i < length counts
    → get_or counts (most_facts * k + i) 0 ≡ capped (count_by (λ e. same_place (place_of (suc k) (suc i)) (end e)) es)
