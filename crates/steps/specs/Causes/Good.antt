-- What a good answer says of the nodes: each stands at its place, they are right, and no name is made twice.
use Rattle.std.specs.Prelude.{ℕ, ◌≤◌, ◌<◌, List, ◌≡◌, refl, length, get_or, eqb, Result, Ok, Err}
use Rattle.std.proofs.Math.Path.{ap, sym}
use Rattle.std.proofs.Common.{◌∙◌, subst, arith}
use Rattle.lists.specs.Choice.{cut, clash}
use Rattle.octets.specs.Limits.{longest}
use Rattle.octets.specs.Head.{Bytes}
use Rattle.lists.specs.All.{All}
use Rattle.rewriting.specs.Table.{Ruling, passed, refused, Ruled}
use Rattle.rewriting.specs.Table.Laws.{refused_passed, passed_inj, passed_good}
use Rattle.protocol.specs.Protocol.{Protocol}
use Rattle.prepared.specs.Prepared.{Prepared}
use Rattle.steps.specs.Nodes.{Node, no_node, Reading, read, broken, no_rule, all_of, NodeWithin, node_list, steps}
use Rattle.steps.specs.Nodes.Code.{NodesAre}
use Rattle.steps.specs.Nodes.Exact.{nodes_form, steps_form}
use Rattle.steps.specs.Table.{RowsFor, Row, NodesIn}
use Rattle.steps.specs.Table.Laws.{nodes_in}
use Rattle.steps.specs.Values.{NodeRight}
use Rattle.steps.specs.Causes.{node_rows, node_ruling}
use Rattle.steps.specs.Causes.Laws.{Passing, nodes_ruled}
use Rattle.steps.specs.Causes.Code.{counted}
use Rattle.rewriting.specs.declared.Refusal.{Refusal}
use Rattle.rewriting.specs.Answers.{answered}

-- nodes of a step list or graph that are good: read from a place on up to another, each with its row in the table
pub record GoodNodes (P : Protocol) (p s : List ℕ) (at : ℕ) (nodes : List ℕ) (n e : ℕ) : Type 0 where
  pub items : List Node
  pub there : node_list P s at ≡ read items e
  pub count : length items ≡ n
  pub long : RowsFor nodes n
  pub rows : (j : ℕ) → j < n → Row p s nodes j (get_or items j no_node)
  pub passing : Passing P items

-- a step list has nothing before and behind them
abbrev pub WhereGood : Protocol → List ℕ → List ℕ → List ℕ → Result ℕ Refusal → Type 0
WhereGood P p s nodes (Ok n) = GoodNodes P p s 0 nodes n (length s)
WhereGood P p s nodes (Err e) = Unit {0}

-- they stand in the table, and they are right
pub record RightNodes (p s nodes : List ℕ) (n : ℕ) (P : Protocol) (xs : List Node) : Type 0 where
  pub stand : NodesIn p s nodes n P xs
  pub right : All (NodeRight P) xs

-- ── laws ──
pub count_of : (q : Ruling (List Node)) (n : ℕ) → passed n ≡ counted q → (xs : List Node) × (q ≡ passed xs) × (n ≡ length xs)
count_of (passed xs) n h = (xs, refl, passed_inj n (length xs) h)
count_of (refused a b) n h = absurd (refused_passed a b n (sym h))

-- nodes of a step list or graph that are ruled good
pub good_passing :
    (p : Protocol) (xs : List Node) → All (NodeWithin p) xs → (n : ℕ) → passed n ≡ counted (node_ruling p xs) → (n ≡ length xs) × Passing p xs
good_passing p xs within n h =
    let (ys, e, l) = count_of (node_ruling p xs) n h in
    let g = passed_good (λ zs. (zs ≡ xs) × Passing p zs) (node_rows p xs) ys
    (subst (Ruled (node_rows p xs) (λ zs. (zs ≡ xs) × Passing p zs)) e (nodes_ruled p xs within)) in
    (l ∙ ap length g.0, subst (Passing p) g.0 g.1)

-- the nodes of a whole step list
list_of_all : (s : List ℕ) (r : Reading (List Node)) (xs : List Node) (e : ℕ) → all_of s r ≡ read xs e → r ≡ read xs e
list_of_all s (read ys d) xs e h =
    cut _ _ _ (eqb d (length s)) h
    (λ t h. h)
    (λ t h. clash (cc))
list_of_all s broken xs e h = clash (cc)
list_of_all s (no_rule k) xs e h = clash (cc)

module _ (P : Protocol) (p s nodes : List ℕ) (bytes : Bytes s) where
  pub where_good :
      (n e : ℕ) (t : NodesAre (steps P s) p s nodes n e) (j : Result ℕ Refusal) → answered j ≡ counted (node_ruling P t.items) → WhereGood P p s nodes j
  unfolding steps
  where_good n e t (Ok m) h =
      let f = steps_form P s bytes t.items e t.there in
      let g = good_passing P t.items f.0.each m h in
      let same : n ≡ m = sym t.count ∙ sym g.0 in
      record {
        items = t.items;
        there = list_of_all s (node_list P s 0) t.items e t.there ∙ ap (read t.items) f.2;
        count = t.count ∙ same;
        long = omega (arith, t.long);
        rows = λ j l. t.rows j (omega arith);
        passing = g.1;
      }
  where_good n e t (Err r) h = tt

  -- what callers above have of good nodes
  pub good_right :
      Prepared p P → length s ≤ longest → (at n e : ℕ) (g : GoodNodes P p s at nodes n e)
      → RightNodes p s nodes n P g.items
  good_right f short at n e g =
      record {
        stand = nodes_in f (nodes_form P s bytes g.items at e g.there).0 g.count g.rows g.long short;
        right = g.passing.right;
      }
