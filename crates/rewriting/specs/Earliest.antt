-- "For each premise, nodes in order and premises in order, the writer takes the lowest node and then the lowest conclusion that is equal and, if
-- linear, still unused. Edges are written in that order of premises."
use Rattle.std.specs.Prelude.{◌≡◌, ◌⊎◌, Bool, true, List, ℕ, ◌<◌}
use Rattle.std.specs.Prelude.{Some}
use Rattle.lists.specs.Lists.{nth, before}
use Rattle.rewriting.specs.Graph.{Node, Place, Edge, into, out_of, premise_at, Joins}

-- "nodes in order and premises in order", "the lowest node and then the lowest conclusion".
abbrev pub Lower : Place → Place → Type 0
Lower a b = (a.node < b.node) ⊎ ((a.node ≡ b.node) × (a.index < b.index))

pub record Lowest (P : Place → Type 0) (a : Place) : Type 0 where
  pub here : P a
  pub below : (b : Place) → Lower b a → ¬ P b

module _ {Fact : Type 0} (Same : Fact → Fact → Type 0) (linear : Fact → Bool) (nodes : List (Node Fact)) where
  -- Its source, a conclusion of an earlier node, "is equal and, if linear, still unused": none of the edges written so far comes from it.
  pub record Fits (written : List Edge) (e : Edge) : Type 0 where
    pub joins : Joins Same nodes e
    pub unused : linear joins.from ≡ true → out_of e.source written ≡ 0

  pub record Earliest (edges : List Edge) : Type 0 where
    -- "For each premise" one edge.
    pub one_into : (a : Place) (f : Fact) → premise_at nodes a ≡ Some f → into a edges ≡ 1
    -- "Edges are written in that order of premises."
    pub in_order : (i j : ℕ) (d e : Edge) → i < j → nth edges i ≡ Some d → nth edges j ≡ Some e → Lower d.target e.target
    -- The source of each is the lowest that fits, the edges before it being written.
    pub sources :
        (j : ℕ) (e : Edge) → nth edges j ≡ Some e
        → Lowest (λ a. Fits (before j edges) (record { source = a; target = e.target })) e.source
