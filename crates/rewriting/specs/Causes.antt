-- Causes 9 to 14 of the refusal table, in the table's words: which items have them.
use Rattle.std.specs.Prelude.{◌≡◌, ◌⊎◌, ◌≢◌, Bool, true, List, [], ◌∷◌, ℕ, ◌≤◌}
use Rattle.std.specs.Prelude.{Some, None}
use Rattle.lists.specs.Lists.{◌∈◌, nth, before}
use Rattle.rewriting.specs.Graph.{Node, Edge, into, out_of, names_of, premise_at, conclusion_at}
use Rattle.rewriting.specs.Rewriting.{Contents, empty, Takes, Reaches}
use Rattle.rewriting.specs.Table.{Row, row}

-- "name made twice", 9, "later node": node `k` makes a name that an earlier node makes.
pub record NameTwice {Fact : Type 0} (nodes : List (Node Fact)) (k : ℕ) : Type 0 where
  pub node : Node Fact
  pub name : ℕ
  pub stands : nth nodes k ≡ Some node
  pub made : node.makes ≡ Some name
  pub earlier : name ∈ names_of (before k nodes)

module _ {Fact : Type 0} (nodes : List (Node Fact)) (edges : List Edge) where
  -- "edge end missing, or source not earlier", 10, "edge".
  pub record EndMissing (k : ℕ) : Type 0 where
    pub edge : Edge
    pub stands : nth edges k ≡ Some edge
    pub wrong : (conclusion_at nodes edge.source ≡ None) ⊎ ((premise_at nodes edge.target ≡ None) ⊎ (edge.target.node ≤ edge.source.node))

  -- "premise without exactly one edge", 12, "node".
  pub record NotOneEdge (k : ℕ) : Type 0 where
    pub index : ℕ
    pub fact : Fact
    pub stands : premise_at nodes (record { node = k; index = index }) ≡ Some fact
    pub wrong : into (record { node = k; index = index }) edges ≢ 1

  -- "linear conclusion used twice", 13, "its node".
  pub record UsedTwice (linear : Fact → Bool) (k : ℕ) : Type 0 where
    pub index : ℕ
    pub fact : Fact
    pub stands : conclusion_at nodes (record { node = k; index = index }) ≡ Some fact
    pub is_linear_lem : linear fact ≡ true
    pub twice : 2 ≤ out_of (record { node = k; index = index }) edges

-- When two facts are the same is a statement here, and nothing says how it is decided.
module _ {Fact : Type 0} (Same : Fact → Fact → Type 0) (linear : Fact → Bool) (nodes : List (Node Fact)) where
  module _ (edges : List Edge) where
    -- "facts differ", 11, "edge".
    pub record FactsDiffer (k : ℕ) : Type 0 where
      pub edge : Edge
      pub stands : nth edges k ≡ Some edge
      pub from : Fact
      pub to : Fact
      pub has_source : conclusion_at nodes edge.source ≡ Some from
      pub has_target : premise_at nodes edge.target ≡ Some to
      pub differ : ¬ Same from to

    -- The rows of a graph, "7 to 13" from 9 on.
    abbrev pub graph_rows : List Row
    graph_rows =
        row 9 (NameTwice nodes)
        ∷ row 10 (EndMissing nodes edges)
        ∷ row 11 FactsDiffer
        ∷ row 12 (NotOneEdge nodes edges)
        ∷ row 13 (UsedTwice nodes edges linear)
        ∷ []

  -- "premises not in the state", 14, "first such node": the nodes before `k` are a run, and the premises of `k` cannot be taken from what it leaves.
  pub record PremisesMissing (k : ℕ) : Type 0 where
    pub node : Node Fact
    pub state : Contents Fact
    pub stands : nth nodes k ≡ Some node
    pub reached : Reaches Same linear empty (before k nodes) state
    pub missing : (rest : List Fact) → ¬ Takes Same linear state.set node.premises state.bag rest

  -- The rows of a drawing, "9, 14".
  abbrev pub draw_rows : List Row
  draw_rows = row 9 (NameTwice nodes) ∷ row 14 PremisesMissing ∷ []
