-- A pass over the edges or the nodes by their numbers, from 0, as they stand in a table.
use Rattle.lists.specs.Tests.{some_none}
use Rattle.std.specs.Prelude.{ℕ, zero, suc, ◌+◌, ◌≤◌, ◌<◌, List, Bool, true, false, ◌≡◌, refl, length, get_or}
use Rattle.std.specs.Prelude.{Option, Some, None}
use Rattle.std.proofs.Common.{ap, sym, ◌∙◌, subst, arith}
use Rattle.std.proofs.lemmas.List.{length-map}
use Rattle.lists.specs.Lists.{first_bad}
use Rattle.lists.specs.Lists.Laws.{at_inside}
use Rattle.lists.specs.Tests.{by_bool}
use Rattle.lists.specs.All.Laws.{map_at}
use Rattle.rewriting.specs.Table.{Finds}
use Rattle.rewriting.specs.Table as table
use Rattle.rewriting.specs.Table.Passes.{first_bad_lem}
use Rattle.rewriting.specs.Graph.{Edge}
use Rattle.protocol.specs.Protocol.{Protocol}
use Rattle.steps.specs.Nodes.{Node, no_node}
use Rattle.steps.specs.Runs.{rewritten, rewrittens}
use Rattle.steps.specs.Table.{NodesIn}
use Rattle.steps.specs.Values.Scan.{Rest, rest_all, rest_more, rest_bad, rest_none}
use Rattle.graph.specs.Table.{edge_at, no_edge, EdgesIn}

-- n elements, by number; d where there is none
pub record Listed {A : Type 0} (d : A) (ys : List A) (n : ℕ) (item : ℕ → A) : Type 0 where
  pub count : length ys ≡ n
  pub each : (j : ℕ) → j < n → get_or ys j d ≡ item j

pub edges_listed : {edges : List ℕ} {m : ℕ} {es : List Edge} → EdgesIn edges m es → Listed no_edge es m (edge_at edges)
edges_listed h = record { count = h.count; each = h.each }

pub nodes_listed :
    {p s nodes : List ℕ} {n : ℕ} {P : Protocol} {xs : List Node} → NodesIn p s nodes n P xs
    → Listed (rewritten P no_node) (rewrittens P xs) n (λ j. rewritten P (get_or xs j no_node))
nodes_listed {P = P} {xs} h = record {
  count = length-map xs (rewritten P) ∙ h.count;
  each = λ j l. map_at (rewritten P) xs j no_node (rewritten P no_node) (omega (arith, h.count));
}

-- ── one more that passes the test; the first that fails it; none ──
module _ {A : Type 0} {d : A} {ys : List A} {n : ℕ} {item : ℕ → A} (listed : Listed d ys n item) (ok : ℕ → A → Bool) (j : ℕ) where
  module _ (inside : j < n) {b : Bool} (is : b ≡ ok (j + 1) (item j)) where
    tested : ok (j + 1) (get_or ys j d) ≡ b
    tested = ap (ok (j + 1)) (listed.each j inside) ∙ sym is

    pub scan_more : b ≡ true → Rest ok d ys j → Rest ok d ys (j + 1)
    scan_more t h = rest_more ok d ys j (omega (arith, listed.count)) (tested ∙ t) h

    pub scan_bad : b ≡ false → Rest ok d ys j → Some (j + 1) ≡ first_bad ok 1 ys
    scan_bad f h = rest_bad ok d ys j (omega (arith, listed.count)) (tested ∙ f) h

  pub scan_none : n ≤ j → Rest ok d ys j → None ≡ first_bad ok 1 ys
  scan_none l h = rest_none ok d ys j (omega (arith, listed.count)) h

-- ── a search of the numbers below n for one that fails the test ──
module _ {A : Type 0} {d : A} {ys : List A} {n : ℕ} {item : ℕ → A} (listed : Listed d ys n item) (ok : ℕ → A → Bool) where
  abbrev pub Passes : ℕ → Type 0
  Passes j = ok (j + 1) (item j) ≡ true

  abbrev pub Fails : ℕ → Type 0
  Fails j = ok (j + 1) (item j) ≡ false

  rest_to : (j : ℕ) → j ≤ n → ((k : ℕ) → k < j → Passes k) → Rest ok d ys j
  rest_to zero l h = rest_all ok d ys
  rest_to (suc j) l h =
      let one : j + 1 ≡ suc j = omega arith in
      subst (Rest ok d ys) one (scan_more listed ok j (omega arith) (sym (h j (omega arith))) refl (rest_to j (omega arith) (λ k a. h k (omega arith))))

  -- so the least of them is the first bad one
  pub searched :
      (r : Option ℕ) → (r ≡ None → (j : ℕ) → j < n → Passes j)
      → ((k : ℕ) → r ≡ Some k → (j : ℕ) × (k ≡ j + 1) × (j < n) × Fails j × ((i : ℕ) → i < j → Passes i))
      → r ≡ first_bad ok 1 ys
  searched None none some = scan_none listed ok n (omega arith) (rest_to n (omega arith) (none refl))
  searched (Some k) none some =
      let (j, is, l, f, before) = some k refl in
      ap Some is ∙ scan_bad listed ok j l (sym f) refl (rest_to j (omega arith) before)

-- where a pass finds none, each passes the test
pub none_bad : {A : Type 0} (ok : A → Bool) (d : A) (ys : List A) → first_bad (λ k. ok) 1 ys ≡ None → (j : ℕ) → j < length ys → ok (get_or ys j d) ≡ true
none_bad {A} ok d ys h j l =
    by_bool (ok (get_or ys j d)) (λ t. t) (λ f. absurd (found (first_bad (λ k. ok) 1 ys) (first_bad_lem (λ k. ok) ys) h f))
  where
    found : (o : Option ℕ) → Finds (table.Fails (λ k. ok) ys) o → o ≡ None → ok (get_or ys j d) ≡ false → ⊥
    found None nowhere e f = nowhere (suc j) (record { which = get_or ys j d; stands = at_inside d ys j l; is_false = f })
    found (Some k) least e f = some_none k e
