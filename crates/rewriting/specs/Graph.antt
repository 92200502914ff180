-- Nodes, places, edges, and what an accepted graph is.
use Rattle.std.specs.Prelude.{◌≡◌, Bool, true, ◌&&◌, List, [], ◌∷◌, ◌++◌, ℕ, ◌≤◌, ◌<◌, eqb}
use Rattle.std.specs.Prelude.{Option, Some, None}
use Rattle.lists.specs.Lists.{◌∈◌, count_by, nth}
-- An accepted graph by another statement of equality.
pub mod Laws

-- A node: "A node's facts are its rule's, with the node's values in place of the variables", and the name that it makes
-- ("Rule 0 makes Fr(fresh)", no other rule makes one).
pub record Node (Fact : Type 0) : Type 0 where
  pub premises : List Fact
  pub conclusions : List Fact
  pub makes : Option ℕ

-- A place among the premises or the conclusions of a list of nodes: the node's number and the fact's in it, "all from 1".
pub record Place : Type 0 where
  pub node : ℕ
  pub index : ℕ

abbrev pub same_place : Place → Place → Bool
same_place a b = eqb a.node b.node && eqb a.index b.index

-- "each source node, conclusion, target node, premise".
pub record Edge : Type 0 where
  pub source : Place
  pub target : Place

-- The name that a node makes, as a list.
abbrev pub name_of : Option ℕ → List ℕ
name_of None = []
name_of (Some m) = m ∷ []

module _ {Fact : Type 0} where
  abbrev pub in_node : (Node Fact → List Fact) → ℕ → Option (Node Fact) → Option Fact
  in_node part i None = None
  in_node part i (Some x) = nth (part x) i

  -- The fact at a place of one part of the nodes: the premises, or the conclusions.
  abbrev pub fact_at : (Node Fact → List Fact) → List (Node Fact) → Place → Option Fact
  fact_at part nodes a = in_node part a.index (nth nodes a.node)

  abbrev pub premise_at : List (Node Fact) → Place → Option Fact
  premise_at nodes a = fact_at (λ x. x.premises) nodes a

  abbrev pub conclusion_at : List (Node Fact) → Place → Option Fact
  conclusion_at nodes a = fact_at (λ x. x.conclusions) nodes a

  -- The names that the nodes make, in order.
  abbrev pub names_of : List (Node Fact) → List ℕ
  names_of [] = []
  names_of (x ∷ xs) = name_of x.makes ++ names_of xs

-- How many edges go into a premise, and out of a conclusion. "An edge listed twice is two edges."
abbrev pub into : Place → List Edge → ℕ
into a edges = count_by (λ e. same_place a e.target) edges

abbrev pub out_of : Place → List Edge → ℕ
out_of a edges = count_by (λ e. same_place a e.source) edges

-- "no name made twice".
abbrev pub NamesOnce : {Fact : Type 0} → List (Node Fact) → Type 0
NamesOnce nodes = (m : ℕ) → count_by (eqb m) (names_of nodes) ≤ 1

-- When two facts are the same is a statement here, and nothing says how it is decided.
module _ {Fact : Type 0} (Same : Fact → Fact → Type 0) where
  -- "each edge from an earlier node, its two facts equal": a conclusion and a premise that are there.
  pub record Joins (nodes : List (Node Fact)) (e : Edge) : Type 0 where
    pub from : Fact
    pub to : Fact
    pub has_source : conclusion_at nodes e.source ≡ Some from
    pub has_target : premise_at nodes e.target ≡ Some to
    pub earlier : e.source.node < e.target.node
    pub facts_same : Same from to

  -- "An accepted graph has: each edge from an earlier node, its two facts equal; just one edge into each premise;
  -- at most one out of each linear conclusion; no name made twice."
  pub record Accepted (linear : Fact → Bool) (nodes : List (Node Fact)) (edges : List Edge) : Type 0 where
    pub joins : (e : Edge) → e ∈ edges → Joins nodes e
    pub one_into : (a : Place) (f : Fact) → premise_at nodes a ≡ Some f → into a edges ≡ 1
    pub one_out : (a : Place) (f : Fact) → conclusion_at nodes a ≡ Some f → linear f ≡ true → out_of a edges ≤ 1
    pub names_once : NamesOnce nodes
