-- The ruling of a list of nodes is what the rows say, and the nodes that pass are right.
use Rattle.std.specs.Prelude.{ℕ, List, [], ◌∷◌, ◌++◌, ◌≡◌, refl}
use Rattle.std.proofs.Common.{inl, inr, ap, sym, ◌∙◌, arith}
use Rattle.lists.specs.Choice.{clash}
use Rattle.octets.specs.Head.{Bytes}
use Rattle.lists.specs.All.{All}
use Rattle.rewriting.specs.Table.{Ruling, Row, row, Ruled}
use Rattle.rewriting.specs.Table.Laws.{ruled, ruled_then, ruled_and_then}
use Rattle.rewriting.specs.Causes.{NameTwice}
use Rattle.rewriting.specs.Names.{name_pass, absent_none, names_once}
use Rattle.protocol.specs.Protocol.{Protocol}
use Rattle.steps.specs.Nodes.{Node, Reading, read, broken, no_rule, NodeWithin, steps}
use Rattle.steps.specs.Nodes.Exact.{steps_form}
use Rattle.steps.specs.Values.{NodeRight, value_rows}
use Rattle.steps.specs.Values.Passes.{term_pass, value_pass, absent_right}
use Rattle.steps.specs.Runs.{rewrittens, NamesOnce}
use Rattle.steps.specs.Causes.{read_rows, read_ruling, node_rows, value_ruling, node_ruling, list_rows, list_ruling}

-- ── 3 and 6 ──
pub read_ruled : {A : Type 0} (item : ℕ) (r : Reading A) → Ruled (read_rows item r) (λ x. (e : ℕ) × (r ≡ read x e)) (read_ruling item r)
read_ruled item (read x e) = inl ((λ k h. clash (cc h.1)), inl ((λ k h. clash (cc)), (x, (e, refl), refl)))
read_ruled item broken = inr (item, record { here = (refl, refl); below = λ j l h. omega (arith, h.0) }, refl)
read_ruled item (no_rule k) =
    inl ((λ j h. clash (cc h.1)), inr (k, record { here = refl; below = λ j l h. let i : k ≡ j = cc in omega arith }, refl))

-- ── 7, 8 and 9 ──
module _ (p : Protocol) where
  -- nodes that pass: right, and no name made twice
  pub record Passing (xs : List Node) : Type 0 where
    pub right : All (NodeRight p) xs
    pub names_once : NamesOnce p xs

  -- 7 and 8 over all nodes, then an answer that further rows rule for nodes that are right
  pub values_ruled :
      {A : Type 0} (Good : A → Type 0) (xs : List Node) → All (NodeWithin p) xs → (cs : List Row) (r : Ruling A)
      → (All (NodeRight p) xs → Ruled cs Good r) → Ruled (value_rows p xs ++ cs) Good (value_ruling p xs r)
  values_ruled Good xs within cs r h =
      ruled_then Good (value_pass p xs within ∷ term_pass p xs ∷ []) cs r (λ n. h ((absent_right p xs within).0 n))

  pub nodes_ruled : (xs : List Node) → All (NodeWithin p) xs → Ruled (node_rows p xs) (λ ys. (ys ≡ xs) × Passing ys) (node_ruling p xs)
  nodes_ruled xs within =
      values_ruled (λ ys. (ys ≡ xs) × Passing ys) xs within (row 9 (NameTwice (rewrittens p xs)) ∷ []) _
      (λ right. ruled (λ ys. (ys ≡ xs) × Passing ys) (name_pass (rewrittens p xs) ∷ []) xs
      (λ n. (refl, record { right = right; names_once = names_once (rewrittens p xs) (absent_none (rewrittens p xs) n.0) })))

  -- ── 3, 6, 7, 8, 9, for a file of any item, whose nodes are within the limits where they are read ──
  pub list_ruled :
      (item : ℕ) (r : Reading (List Node)) → ((xs : List Node) (e : ℕ) → r ≡ read xs e → All (NodeWithin p) xs)
      → Ruled (list_rows p item r) (λ xs. ((e : ℕ) × (r ≡ read xs e)) × Passing xs) (list_ruling p item r)
  list_ruled item r within =
      ruled_and_then (λ xs. (e : ℕ) × (r ≡ read xs e)) (λ xs. ((e : ℕ) × (r ≡ read xs e)) × Passing xs) (read_rows item r) (read_ruling item r)
      (node_rows p) (node_ruling p) (read_ruled item r)
      (λ xs (e, h) q. again xs e h (node_rows p xs) (node_ruling p xs) (nodes_ruled xs (within xs e h)))
    where
      again :
          (xs : List Node) (e : ℕ) → r ≡ read xs e → (cs : List Row) (q : Ruling (List Node)) → Ruled cs (λ ys. (ys ≡ xs) × Passing ys) q
          → Ruled cs (λ ys. ((e : ℕ) × (r ≡ read ys e)) × Passing ys) q
      again xs e h [] q (ys, (i, g), j) = (ys, ((e, h ∙ ap (λ (zs : List Node). read zs e) (sym i)), g), j)
      again xs e h (c ∷ cs) q (inl (n, g)) = inl (n, again xs e h cs q g)
      again xs e h (c ∷ cs) q (inr g) = inr g

  -- a step list
  pub steps_ruled :
      (item : ℕ) (file : List ℕ) → Bytes file
      → Ruled (list_rows p item (steps p file)) (λ xs. ((e : ℕ) × (steps p file ≡ read xs e)) × Passing xs) (list_ruling p item (steps p file))
  steps_ruled item file bytes = list_ruled item (steps p file) (λ xs e h. (steps_form p file bytes xs e h).0.each)
