-- An accepted graph has just as many edges as its nodes have premises.
use Rattle.std.specs.Prelude.{◌≡◌, refl, Bool, true, List, [], ◌∷◌, ℕ, suc, ◌+◌, length}
use Rattle.std.proofs.Common.{◌∙◌, ap, ap₂, arith, length-append}
use Rattle.lists.specs.Lists.{◌∈◌, count_by}
use Rattle.lists.specs.Lists.Laws.{count_all}
use Rattle.lists.specs.Lists.Pairing.{covers, packs}
use Rattle.rewriting.specs.Facts.{Facts, Tested}
use Rattle.rewriting.specs.Graph.{Node, Edge, same_place, Accepted}
use Rattle.rewriting.specs.Places.{Placed, placed, premises_from}
use Rattle.rewriting.specs.Places.Laws.{place_self, placed_stands, stands_placed, placed_all_once, once_apart}

module _ {Fact : Type 0} where
  -- How many premises the nodes have.
  abbrev pub premise_count : List (Node Fact) → ℕ
  premise_count [] = 0
  premise_count (x ∷ xs) = length x.premises + premise_count xs

  placed_length : (k i : ℕ) (fs : List Fact) → length (placed k i fs) ≡ length fs
  placed_length k i [] = refl
  placed_length k i (f ∷ fs) = ap suc (placed_length k (suc i) fs)

  premises_length : (k : ℕ) (xs : List (Node Fact)) → length (premises_from k xs) ≡ premise_count xs
  premises_length k [] = refl
  premises_length k (x ∷ xs) =
      length-append (placed k 1 x.premises) (premises_from (suc k) xs) ∙ ap₂ (λ m n. m + n) (placed_length k 1 x.premises) (premises_length (suc k) xs)

pub accepted_size :
    (F : Facts) (nodes : List (Node F.Fact)) (edges : List Edge) → Accepted (Tested F) F.linear nodes edges → length edges ≡ premise_count nodes
accepted_size F nodes edges acc =
    omega (
      arith,
      count_all edges,
      count_all ws,
      premises_length 1 nodes,
      covers key (λ w. true) edges ws (once_apart (λ e. e.target) ws (λ a. placed_all_once (λ x. x.premises) a 1 nodes)) (λ w m t. omega (arith, one w m))
          (λ e. true) (λ w m t e u. refl),
      packs key (λ w. true) edges ws (λ w m t. omega (arith, one w m)) (λ e. true) (λ e m t.
          let j = acc.joins e m in
          let w : Placed F.Fact = record { place = e.target; fact = j.to } in
          (w, stands_placed (λ x. x.premises) nodes w j.has_target, refl, place_self e.target)),
    )
  where
    ws : List (Placed F.Fact)
    ws = premises_from 1 nodes

    key : Placed F.Fact → Edge → Bool
    key w e = same_place w.place e.target

    one : (w : Placed F.Fact) → w ∈ ws → count_by (key w) edges ≡ 1
    one w m = acc.one_into w.place w.fact (placed_stands (λ x. x.premises) nodes w m)
