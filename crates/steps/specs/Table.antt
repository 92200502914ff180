-- The table of nodes that their reading fills: a row for each node, with its rule number, the places of its values and the place behind
-- them, how many symbols each value has, and whether one holds a variable.
use Rattle.std.specs.Prelude.{ℕ, suc, ◌+◌, ◌*◌, ◌≤◌, ◌<◌, List, Bool, ◌≡◌, length, get_or}
use Rattle.lists.specs.All.{All}
use Rattle.lists.specs.Choice.{pick}
use Rattle.lists.specs.Lists.{any_by}
use Rattle.octets.specs.Limits.{longest}
use Rattle.number.specs.Groups.{number_limit}
use Rattle.number.specs.Reading.{got, below}
use Rattle.term.specs.Term.{Term, symbols}
use Rattle.term.specs.Reader.{term}
use Rattle.term.specs.Walk.{holds}
use Rattle.protocol.specs.Figures.{most_variables}
use Rattle.protocol.specs.Protocol.{Protocol}
use Rattle.prepared.specs.Prepared.{slots_of, Prepared}
use Rattle.steps.specs.Nodes.{Node, no_node, most_nodes, NodeWithin}
use Rattle.steps.specs.Values.Parts.{no_term}
-- what a row says of its node's rule and values
pub mod Laws

-- ── where things stand ──
-- the places of a node's values, and the place behind the last
abbrev pub place_count : ℕ
place_count = most_variables + 1

abbrev pub row_length : ℕ
row_length = 1 + place_count + most_variables + 1

-- rows for the most nodes
abbrev pub table_length : ℕ
table_length = row_length * most_nodes

-- a table has rows for n nodes
abbrev pub RowsFor : List ℕ → ℕ → Type 0
RowsFor nodes n = row_length * n ≤ length nodes

-- for as many nodes as the list at a place has by its count
abbrev pub RowsOf : List ℕ → ℕ → List ℕ → Type 0
RowsOf s at nodes = (n e : ℕ) → below s (suc most_nodes) at ≡ got n e → RowsFor nodes n

abbrev pub row_at : ℕ → ℕ
row_at j = row_length * j

abbrev pub places_at : ℕ → ℕ
places_at j = row_at j + 1

abbrev pub sizes_at : ℕ → ℕ
sizes_at j = row_at j + (1 + place_count)

abbrev pub held_at : ℕ → ℕ
held_at j = row_at j + (1 + place_count + most_variables)

-- ── tables for few nodes ──
abbrev pub few_nodes : ℕ
few_nodes = 32

-- the list that a file begins with has few nodes by its count
abbrev pub FewNodes : List ℕ → Type 0
FewNodes s = (n e : ℕ) → below s (suc most_nodes) 0 ≡ got n e → n ≤ few_nodes

-- ── what stands there ──
-- each value from its place up to the next
abbrev pub Stand : List ℕ → List ℕ → List ℕ → ℕ → List Term → Type 0
Stand s arities nodes at vs =
    (v : ℕ) → v < length vs → term s arities (get_or nodes (at + v) 0) ≡ got (get_or vs v no_term) (get_or nodes (at + (v + 1)) 0)

abbrev pub Sized : List ℕ → ℕ → List Term → Type 0
Sized nodes at vs = (v : ℕ) → v < length vs → get_or nodes (at + v) 0 ≡ symbols (get_or vs v no_term)

-- 1 where a value holds a variable
abbrev pub holds_any : List Term → Bool
holds_any vs = any_by (λ v. holds v 0 0 number_limit) vs

abbrev pub held_flag : Bool → ℕ
held_flag b = pick b 1 0

pub record Row (p s nodes : List ℕ) (j : ℕ) (x : Node) : Type 0 where
  pub few : length x.values ≤ most_variables
  pub rule : get_or nodes (row_at j) 0 ≡ x.rule
  pub places : Stand s (slots_of p) nodes (places_at j) x.values
  pub sizes : Sized nodes (sizes_at j) x.values
  pub held : get_or nodes (held_at j) 0 ≡ held_flag (holds_any x.values)

-- ── as contracts ask ──
-- node j, from 0, under a prepared protocol
pub record NodeIn (p s nodes : List ℕ) (j : ℕ) (P : Protocol) (x : Node) : Type 0 where
  pub prepared : Prepared p P
  pub within : NodeWithin P x
  pub row : Row p s nodes j x
  pub few : j < most_nodes
  pub long : RowsFor nodes (j + 1)
  pub short : length s ≤ longest

-- n nodes, of a step list or of a graph
pub record NodesIn (p s nodes : List ℕ) (n : ℕ) (P : Protocol) (xs : List Node) : Type 0 where
  pub prepared : Prepared p P
  pub count : length xs ≡ n
  pub few : n ≤ most_nodes
  pub within : All (NodeWithin P) xs
  pub rows : (j : ℕ) → j < n → Row p s nodes j (get_or xs j no_node)
  pub long : RowsFor nodes n
  pub short : length s ≤ longest
