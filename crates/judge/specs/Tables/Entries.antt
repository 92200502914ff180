-- The entries of the tables in order: entry e is that of its node, and those behind it follow.
use Prim.Native.Nat.{ℕ, zero, suc, ◌+◌, ◌-◌, ◌≤◌, ◌<◌}
use mathlib.Core.List.{List, [], ◌∷◌, ◌++◌, map}
use Rattle.std.specs.Prelude.{Bool, ◌≡◌, length, get_or}
use Rattle.std.proofs.Math.Path.{refl, sym, ap, ap₂, subst}
use Rattle.std.proofs.Common.{◌∙◌}
use native.Mathlib.Omega.{arith}
use Rattle.std.proofs.Math.Numerals.{add-one}
use Rattle.std.proofs.Math.ListN.{drop}
use Rattle.std.proofs.Math.Seq.{drop-append-add, drop-nil}
use Rattle.lists.specs.Choice.{by_size}
use Rattle.lists.specs.Lists.{row}
use Rattle.lists.specs.Lists.Laws.{row_same}
use Rattle.property.specs.Meaning.{Fact, Entry, Trace}
use Rattle.property.specs.Judge.{entries_from}
use Rattle.judge.specs.Tables.{fact_of, facts_at, trace_of, entry_of, rest, total, Shape, Past, Of}

-- the places from s on ascend
abbrev Ascends : ℕ → List ℕ → Type 0
Ascends s [] = Unit {0}
Ascends s (t ∷ ss) = (s ≤ t) × Ascends t ss

ascends_all : (s : ℕ) (ss : List ℕ) → ((i : ℕ) → i + 1 < length (s ∷ ss) → get_or (s ∷ ss) i 0 ≤ get_or (s ∷ ss) (i + 1) 0) → Ascends s ss
ascends_all s [] h = tt
ascends_all s (t ∷ ss) h = (h 0 (omega arith), ascends_all t ss (λ i l. rw add-one (rw add-one at (h (suc i) (omega arith)))))

-- the last of them
abbrev last_of : ℕ → List ℕ → ℕ
last_of s [] = s
last_of s (t ∷ ss) = last_of t ss

last_total : (s : ℕ) (ss : List ℕ) → total (s ∷ ss) ≡ last_of s ss
last_total s [] = refl
last_total s (t ∷ ss) =
    let z : length (s ∷ t ∷ ss) - 1 ≡ suc (length (t ∷ ss) - 1) = omega arith in
    ap (λ (i : ℕ). get_or (s ∷ t ∷ ss) i 0) z ∙ last_total t ss

later_than : (s : ℕ) (ss : List ℕ) (i : ℕ) → Ascends s ss → i < length (s ∷ ss) → s ≤ get_or (s ∷ ss) i 0
later_than s ss zero a l = omega arith
later_than s [] (suc i) a l = absurd (omega arith)
later_than s (t ∷ ss) (suc i) a l = omega (arith, a.0, later_than t ss i a.1 (omega arith))

at_most_last : (s : ℕ) (ss : List ℕ) (i : ℕ) → Ascends s ss → i < length (s ∷ ss) → get_or (s ∷ ss) i 0 ≤ last_of s ss
at_most_last s [] zero a l = omega arith
at_most_last s [] (suc i) a l = absurd (omega arith)
at_most_last s (t ∷ ss) zero a l = omega (arith, a.0, at_most_last t ss 0 a.1 (omega arith))
at_most_last s (t ∷ ss) (suc i) a l = at_most_last t ss i a.1 (omega arith)

module _ (ars symbols classes : List ℕ) where
  -- ── the trace by recursion over the starts ──
  -- n facts from entry e on
  abbrev facts_from : ℕ → ℕ → List (Fact ℕ)
  facts_from zero e = []
  facts_from (suc n) e = fact_of ars symbols classes e ∷ facts_from n (suc e)

  -- the nodes from the one that begins at s on
  abbrev nodes_from : ℕ → List ℕ → Trace ℕ
  nodes_from s [] = []
  nodes_from s (t ∷ ss) = facts_from (t - s) s ∷ nodes_from t ss

  facts_row : (n s : ℕ) → row (λ i. fact_of ars symbols classes (s + i)) n ≡ facts_from n s
  facts_row zero s = refl
  facts_row (suc n) s =
      let z : s + 0 ≡ s = omega arith in
      ap₂ (λ (e : ℕ) (l : List (Fact ℕ)). fact_of ars symbols classes e ∷ l) z
      (row_same (λ j. fact_of ars symbols classes (s + suc j)) (λ j. fact_of ars symbols classes (suc s + j)) n
      (λ j _. let y : s + suc j ≡ suc s + j = omega arith in ap (fact_of ars symbols classes) y)
      ∙ facts_row n (suc s))

  nodes_row : (s : ℕ) (ss : List ℕ) → row (facts_at ars symbols classes (s ∷ ss)) (length ss) ≡ nodes_from s ss
  nodes_row s [] = refl
  nodes_row s (t ∷ ss) =
      ap₂ (λ (x : List (Fact ℕ)) (l : Trace ℕ). x ∷ l) (facts_row (t - s) s)
      (row_same (λ k. facts_at ars symbols classes (s ∷ t ∷ ss) (suc k)) (facts_at ars symbols classes (t ∷ ss)) (length ss)
      (λ k _. let z : suc k + 1 ≡ suc (k + 1) = omega arith in
      ap (λ (m : ℕ). row (λ i. fact_of ars symbols classes (get_or (t ∷ ss) k 0 + i)) (get_or (s ∷ t ∷ ss) m 0 - get_or (t ∷ ss) k 0)) z)
      ∙ nodes_row t ss)

  trace_from : (s : ℕ) (ss : List ℕ) → trace_of ars symbols classes (s ∷ ss) ≡ nodes_from s ss
  trace_from s ss =
      let z : length (s ∷ ss) - 1 ≡ length ss = omega arith in
      ap (row (facts_at ars symbols classes (s ∷ ss))) z ∙ nodes_row s ss

  -- ── the entries ──
  abbrev entry : ℕ → ℕ → Entry ℕ
  entry k e = record { node = k; fact = fact_of ars symbols classes e }

  abbrev entries_of : ℕ → ℕ → List ℕ → List (Entry ℕ)
  entries_of k s ss = entries_from k (nodes_from s ss)

  -- n entries of node k from s on, and others behind them
  abbrev front : ℕ → ℕ → ℕ → List (Entry ℕ)
  front k n s = map (λ f. record { node = k; fact = f }) (facts_from n s)

  front_length : (k n s : ℕ) → length (front k n s) ≡ n
  front_length k zero s = refl
  front_length k (suc n) s = ap suc (front_length k n (suc s))

  front_at : (k n s i e : ℕ) (es : List (Entry ℕ)) → i < n → e ≡ s + i → drop i (front k n s ++ es) ≡ entry k e ∷ drop (suc i) (front k n s ++ es)
  front_at k zero s i e es l q = absurd (omega arith)
  front_at k (suc n) s zero e es l q = let z : s ≡ e = omega (arith, q) in ap (λ (x : ℕ). entry k x ∷ (front k n (suc s) ++ es)) z
  front_at k (suc n) s (suc i) e es l q = front_at k n (suc s) i e es (omega arith) (omega (arith, q))

  -- behind the first node's entries
  behind : (k s t e : ℕ) (ss : List ℕ) → s ≤ t → t ≤ e → drop (e - s) (entries_of k s (t ∷ ss)) ≡ drop (e - t) (entries_of (suc k) t ss)
  behind k s t e ss l m =
      let z : e - s ≡ length (front k (t - s) s) + (e - t) = omega (arith, front_length k (t - s) s) in
      ap (λ (i : ℕ). drop i (entries_of k s (t ∷ ss))) z ∙ drop-append-add (front k (t - s) s) (entries_of (suc k) t ss) (e - t)

  entries_at :
      (k s : ℕ) (ss : List ℕ) (node e : ℕ) → Ascends s ss → node < length ss → get_or (s ∷ ss) node 0 ≤ e → e < get_or ss node 0
      → drop (e - s) (entries_of k s ss) ≡ entry (k + node) e ∷ drop (suc e - s) (entries_of k s ss)
  entries_at k s [] node e a i l m = absurd (omega arith)
  entries_at k s (t ∷ ss) zero e a i l m =
      let z : suc (e - s) ≡ suc e - s = omega arith in
      let y : k ≡ k + 0 = omega arith in
      front_at k (t - s) s (e - s) e (entries_of (suc k) t ss) (omega arith) (omega arith)
      ∙ ap₂ (λ (x y : ℕ). entry x e ∷ drop y (entries_of k s (t ∷ ss))) y z
  entries_at k s (t ∷ ss) (suc node) e a i l m =
      let y : suc k + node ≡ k + suc node = omega arith in
      let b : t ≤ e = omega (arith, later_than t ss node a.1 (omega arith)) in
      behind k s t e ss a.0 b
      ∙ entries_at (suc k) t ss node e a.1 (omega arith) l m
      ∙ ap₂ (λ (x : ℕ) (r : List (Entry ℕ)). entry x e ∷ r) y (sym (behind k s t (suc e) ss a.0 (omega arith)))

  entries_end : (k s : ℕ) (ss : List ℕ) → Ascends s ss → drop (last_of s ss - s) (entries_of k s ss) ≡ []
  entries_end k s [] a = drop-nil (s - s)
  entries_end k s (t ∷ ss) a =
      behind k s t (last_of t ss) ss a.0 (at_most_last t ss 0 a.1 (omega arith)) ∙ entries_end (suc k) t ss a.1

-- each entry has a node
has_node :
    (s : ℕ) (ss : List ℕ) (e : ℕ) → s ≤ e → e < last_of s ss
    → (node : ℕ) × (node < length ss) × (get_or (s ∷ ss) node 0 ≤ e) × (e < get_or ss node 0)
has_node s [] e l m = absurd (omega arith)
has_node s (t ∷ ss) e l m =
    by_size e t (λ h. (0, omega arith, l, h)) (λ h. let r = has_node t ss e h m in (suc r.0, omega (arith, r.1), r.2, r.3))

-- ── as code asks it ──
module _ (ars : List ℕ) {starts symbols classes : List ℕ} (shape : Shape starts symbols classes) where
  pub rest_begins : entries_from 1 (trace_of ars symbols classes starts) ≡ rest ars symbols classes starts 0
  unfolding rest
  rest_begins = refl

  abbrev Follows : ℕ → ℕ → Trace ℕ → Type 0
  Follows node e tr = drop e (entries_from 1 tr) ≡ entry_of ars symbols classes node e ∷ drop (e + 1) (entries_from 1 tr)

  pub rest_at :
      {node e : ℕ} → Of starts node e
      → rest ars symbols classes starts e ≡ entry_of ars symbols classes node e ∷ rest ars symbols classes starts (e + 1)
  unfolding rest
  rest_at {node} {e} o = go starts shape o
    where
      go : (starts : List ℕ) → Shape starts symbols classes → Of starts node e → Follows node e (trace_of ars symbols classes starts)
      go [] h o = absurd (omega (arith, h.some))
      go (zero ∷ ss) h o =
          let x : e - 0 ≡ e = omega arith in
          let y : suc e - 0 ≡ e + 1 = omega arith in
          let z : 1 + node ≡ suc node = omega arith in
          subst (Follows node e) (sym (trace_from ars symbols classes 0 ss))
          (sym (ap (λ (i : ℕ). drop i (entries_of ars symbols classes 1 0 ss)) x)
          ∙ entries_at ars symbols classes 1 0 ss node e (ascends_all 0 ss h.ascends) (omega (arith, o.inside)) o.begun
          (rw add-one at o.before)
          ∙ ap₂ (λ (k i : ℕ). entry ars symbols classes k e ∷ drop i (entries_of ars symbols classes 1 0 ss)) z y)
      go (suc s ∷ ss) h o = absurd (omega (arith, h.first))

  pub rest_ends : {e : ℕ} → e ≡ total starts → rest ars symbols classes starts e ≡ []
  unfolding rest
  rest_ends {e} q = go starts shape q
    where
      go : (starts : List ℕ) → Shape starts symbols classes → e ≡ total starts → drop e (entries_from 1 (trace_of ars symbols classes starts)) ≡ []
      go [] h q = absurd (omega (arith, h.some))
      go (zero ∷ ss) h q =
          let x : last_of 0 ss - 0 ≡ e = omega (arith, q, last_total 0 ss) in
          ap (λ (tr : Trace ℕ). drop e (entries_from 1 tr)) (trace_from ars symbols classes 0 ss)
          ∙ sym (ap (λ (i : ℕ). drop i (entries_of ars symbols classes 1 0 ss)) x)
          ∙ entries_end ars symbols classes 1 0 ss (ascends_all 0 ss h.ascends)
      go (suc s ∷ ss) h q = absurd (omega (arith, h.first))

  -- some node has entry e
  node_at : (e : ℕ) → e < total starts → (node : ℕ) × Of starts node e
  node_at e l = go starts shape l
    where
      go : (starts : List ℕ) → Shape starts symbols classes → e < total starts → (node : ℕ) × Of starts node e
      go [] h l = absurd (omega (arith, h.some))
      go (zero ∷ ss) h l =
          let r = has_node 0 ss e (omega arith) (omega (arith, l, last_total 0 ss)) in
          (r.0, record { inside = omega (arith, r.1); begun = r.2; before = rw add-one r.3 })
      go (suc s ∷ ss) h l = absurd (omega (arith, h.first))

  -- an entry that a fold passes over
  pub rest_skip :
      (F : List (Entry ℕ) → Bool) (e : ℕ) → e < total starts
      → ((node : ℕ) (es : List (Entry ℕ)) → F (entry_of ars symbols classes node e ∷ es) ≡ F es)
      → F (rest ars symbols classes starts e) ≡ F (rest ars symbols classes starts (e + 1))
  rest_skip F e l h =
      let o = node_at e l in
      ap F (rest_at o.1) ∙ h o.0 (rest ars symbols classes starts (e + 1))

-- ── as code walks them ──
-- a node behind whose start the entry is, and which is not the last start, has a next one
pub node_inside : {starts : List ℕ} {node e : ℕ} → Past starts node e → e < total starts → node + 1 < length starts
node_inside {starts} {node} {e} p l =
    by_size (node + 1) (length starts) (λ h. h)
    (λ h. let z : node ≡ length starts - 1 = omega (arith, p.inside) in absurd (omega (arith, p.begun, ap (λ (i : ℕ). get_or starts i 0) z)))

pub node_next : {starts : List ℕ} {node e : ℕ} → Past starts node e → e < total starts → get_or starts (node + 1) 0 ≤ e → Past starts (node + 1) e
node_next p l h = record { inside = node_inside p l; begun = h }

pub node_found : {starts : List ℕ} {node e : ℕ} → Past starts node e → e < total starts → e < get_or starts (node + 1) 0 → Of starts node e
node_found p l h = record { inside = node_inside p l; begun = p.begun; before = h }
