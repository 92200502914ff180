-- The facts of a list of nodes, each with its place: the one list that runs and graphs are counted over.
use Rattle.std.specs.Prelude.{List, [], ◌∷◌, ◌++◌, ℕ, suc}
use Rattle.lists.specs.Lists.{count_by}
use Rattle.rewriting.specs.Facts.{Facts}
use Rattle.rewriting.specs.Graph.{Node, Place, same_place}
-- The placed facts are just the facts at the places, each once.
pub mod Laws

pub record Placed (Fact : Type 0) : Type 0 where
  pub place : Place
  pub fact : Fact

module _ {Fact : Type 0} where
  -- The facts of node `k`, numbered from `i`.
  abbrev pub placed : ℕ → ℕ → List Fact → List (Placed Fact)
  placed k i [] = []
  placed k i (f ∷ fs) = record { place = record { node = k; index = i }; fact = f } ∷ placed k (suc i) fs

  -- The facts of one part of the nodes, which are numbered from `k`.
  abbrev pub placed_all : (Node Fact → List Fact) → ℕ → List (Node Fact) → List (Placed Fact)
  placed_all part k [] = []
  placed_all part k (x ∷ xs) = placed k 1 (part x) ++ placed_all part (suc k) xs

  -- The premises and the conclusions of the nodes, which are numbered from `k`.
  abbrev pub premises_from : ℕ → List (Node Fact) → List (Placed Fact)
  premises_from k xs = placed_all (λ x. x.premises) k xs

  abbrev pub conclusions_from : ℕ → List (Node Fact) → List (Placed Fact)
  conclusions_from k xs = placed_all (λ x. x.conclusions) k xs

  -- How many of them stand at a place.
  abbrev pub count_at : Place → List (Placed Fact) → ℕ
  count_at a l = count_by (λ t. same_place a t.place) l

-- How many of them are the same as a fact.
abbrev pub count_placed : (F : Facts) → F.Fact → List (Placed F.Fact) → ℕ
count_placed F f l = count_by (λ t. F.same f t.fact) l
