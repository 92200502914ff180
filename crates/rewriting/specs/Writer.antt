-- The graph writer over facts: each premise, in order, takes the lowest earlier conclusion that is the same and, if linear, unused.
use Rattle.std.specs.Prelude.{cond, List, [], ◌∷◌, ◌++◌, ℕ, suc}
use Rattle.std.specs.Prelude.{Option, Some, None}
use Rattle.lists.specs.Lists.{first_by, remove_by, scan}
use Rattle.rewriting.specs.Facts.{Facts}
use Rattle.rewriting.specs.Graph.{Node, Place, Edge, name_of}
use Rattle.rewriting.specs.Machine.{made_already}
use Rattle.rewriting.specs.Table.{Ruling, passed, refused, or_refuse}
use Rattle.rewriting.specs.Places.{Placed, placed}

-- 9: the first node whose name an earlier one makes.
module _ {Fact : Type 0} where
  abbrev pub add_name : List ℕ → Node Fact → List ℕ
  add_name made x = made ++ name_of x.makes

  abbrev pub name_twice_from : ℕ → List ℕ → List (Node Fact) → Option ℕ
  name_twice_from k made nodes = scan (λ j names x. made_already names x.makes) add_name k made nodes

  abbrev pub first_name_twice : List (Node Fact) → Option ℕ
  first_name_twice nodes = name_twice_from 1 [] nodes

-- One edge more into place `a`, if its source was found.
abbrev pub add_edge : {Fact : Type 0} → Place → Option (Placed Fact) → Option (List Edge) → Option (List Edge)
add_edge a None r = None
add_edge a (Some t) None = None
add_edge a (Some t) (Some es) = Some (record { source = t.place; target = a } ∷ es)

-- The edges of node `k` and those of the nodes behind it; 14 where it has none.
abbrev pub add_node : ℕ → Option (List Edge) → Ruling (List Edge) → Ruling (List Edge)
add_node k None r = refused 14 k
add_node k (Some es) (passed fs) = passed (es ++ fs)
add_node k (Some es) (refused n j) = refused n j

module _ (F : Facts) where
  -- What is left when a premise takes its source: the first that is the same leaves, if it is linear.
  abbrev pub take_one : F.Fact → List (Placed F.Fact) → List (Placed F.Fact)
  take_one p free = cond (F.linear p) (remove_by (λ t. F.same p t.fact) free) free

  abbrev pub take_all : List F.Fact → List (Placed F.Fact) → List (Placed F.Fact)
  take_all [] free = free
  take_all (p ∷ ps) free = take_all ps (take_one p free)

  -- The edges into the premises of node `k`, numbered from `i`.
  abbrev pub edges_into : ℕ → ℕ → List (Placed F.Fact) → List F.Fact → Option (List Edge)
  edges_into k i free [] = Some []
  edges_into k i free (p ∷ ps) =
      add_edge (record { node = k; index = i }) (first_by (λ t. F.same p t.fact) free) (edges_into k (suc i) (take_one p free) ps)

  -- The free conclusions after node `k`: without the linear ones that it used, and with its own.
  abbrev pub free_after : ℕ → List (Placed F.Fact) → Node F.Fact → List (Placed F.Fact)
  free_after k free x = take_all x.premises free ++ placed k 1 x.conclusions

  abbrev pub draw_from : ℕ → List (Placed F.Fact) → List (Node F.Fact) → Ruling (List Edge)
  draw_from k free [] = passed []
  draw_from k free (x ∷ xs) = add_node k (edges_into k 1 free x.premises) (draw_from (suc k) (free_after k free x) xs)

  -- "Drawing: .. 9, 14": 9 over the whole list, then 14.
  abbrev pub draw : List (Node F.Fact) → Ruling (List Edge)
  draw nodes = or_refuse 9 (first_name_twice nodes) (draw_from 1 [] nodes)
