-- The ruling of a list of nodes: 3 and 6 in one reading, front to back, then 7, 8 and 9 over all nodes. Said once for the step list
-- (item 5) and for the nodes of a graph (item 3).
use Rattle.std.specs.Prelude.{ℕ, List, [], ◌∷◌, ◌++◌, ◌≡◌}
use Rattle.lists.specs.Lists.{first_bad}
use Rattle.rewriting.specs.Table.{Ruling, passed, refused, Row, row, fixed_row, or_refuse, and_then, rows_after}
use Rattle.rewriting.specs.Causes.{NameTwice}
use Rattle.rewriting.specs.Writer.{first_name_twice}
use Rattle.protocol.specs.Protocol.{Protocol}
use Rattle.steps.specs.Nodes.{Node, Reading, read, broken, no_rule}
use Rattle.steps.specs.Values.{value_rows}
use Rattle.steps.specs.Values.Tests.{node_values_ok, node_terms_ok}
use Rattle.steps.specs.Runs.{rewrittens}
-- the ruling is what the rows say
pub mod Laws
-- what the code answers
pub mod Code
-- what a good answer says of the nodes
pub mod Good

-- "An item is .. 3 graph, .. 5 steps where "file" stands."
abbrev pub steps_item : ℕ
steps_item = 5

abbrev pub graph_item : ℕ
graph_item = 3

-- ── 3 and 6 of a reading ──
module _ {A : Type 0} (item : ℕ) where
  abbrev pub read_rows : Reading A → List Row
  read_rows r = fixed_row 3 item (r ≡ broken) ∷ row 6 (λ k. r ≡ no_rule k) ∷ []

  abbrev pub read_ruling : Reading A → Ruling A
  read_ruling (read x e) = passed x
  read_ruling broken = refused 3 item
  read_ruling (no_rule k) = refused 6 k

-- ── 7, 8 and 9 of the nodes ──
module _ (p : Protocol) where
  abbrev pub node_rows : List Node → List Row
  node_rows xs = value_rows p xs ++ (row 9 (NameTwice (rewrittens p xs)) ∷ [])

  -- 7 and 8, then what follows
  abbrev pub value_ruling : {A : Type 0} → List Node → Ruling A → Ruling A
  value_ruling xs r =
      or_refuse 7 (first_bad (λ k x. node_values_ok p x) 1 xs)
      (or_refuse 8 (first_bad (λ k x. node_terms_ok p x) 1 xs) r)

  abbrev pub node_ruling : List Node → Ruling (List Node)
  node_ruling xs = value_ruling xs (or_refuse 9 (first_name_twice (rewrittens p xs)) (passed xs))

  -- ── all of them, of the file with this item ──
  abbrev pub list_rows : ℕ → Reading (List Node) → List Row
  list_rows item r = read_rows item r ++ rows_after (read_ruling item r) node_rows

  abbrev pub list_ruling : ℕ → Reading (List Node) → Ruling (List Node)
  list_ruling item r = and_then (read_ruling item r) node_ruling
