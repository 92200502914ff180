-- 12 and 13 of a node by the counts of ends.
use Prim.Native.Nat.{ℕ, zero, suc, ◌+◌, ◌*◌, ◌≤◌, ◌<◌}
use mathlib.Core.List.{List, [], ◌∷◌}
use Rattle.std.specs.Prelude.{Bool, true, false, not, ◌&&◌, ◌||◌, ◌≡◌, eqb, leb, length, take, drop}
use Rattle.std.specs.Bool.{MatchBool}
use Rattle.std.specs.List.{AllWithin, HoldsAt}
use Rattle.std.proofs.Math.Bool.{and_assoc, and-true}
use Rattle.std.proofs.Math.Path.{refl, ap, ap₂}
use Rattle.std.proofs.Common.{sym, ◌∙◌, eq-eqb, ne_eqb, get_or-take, get_or-drop}
use native.Mathlib.Omega.{arith}
use Rattle.std.proofs.Math.ListN.{get_or}
use Rattle.lists.specs.Asks.{Asks₃, Promises₃}
use Rattle.lists.specs.Tests.{gt_leb}
use Rattle.lists.specs.Below.{all_below, all_stop, below_from}
use Rattle.lists.specs.Lists.{all_by}
use Rattle.rewriting.specs.Graph.{Edge, into, out_of}
use Rattle.rewriting.specs.Places.{Placed, placed}
use Rattle.rewriting.specs.Checker.{one_into, premises_ok, one_out, conclusions_ok}
use Rattle.protocol.specs.Figures.{premise_list, conclusion_list, most_facts}
use Rattle.protocol.specs.Protocol.{Protocol, no_fact}
use Rattle.steps.specs.Nodes.{Node}
use Rattle.steps.specs.Facts.{facts_of, is_linear}
use Rattle.steps.specs.Facts.Counts.{facts_few}
use Rattle.steps.specs.Runs.{protocol_facts, rewritten}
use Rattle.steps.specs.Table.{NodeIn}
use Rattle.facts.specs.Calls.{NodeOf, fact_at}
use Rattle.graph.specs.Graph.{place_of}
use Rattle.graph.specs.Uses.{capped, CountsOf}

-- ── the counts ──
-- of the edges into each premise, and out of each conclusion
abbrev pub Into : List ℕ → List Edge → Type 0
Into uses es = CountsOf uses (λ e. e.target) es

abbrev pub OutOf : List ℕ → List Edge → Type 0
OutOf uses es = CountsOf uses (λ e. e.source) es

-- of fact i of node j, both from 0: just one edge goes into it; it is persistent or at most one goes out of it
abbrev pub fed_at : List ℕ → ℕ → ℕ → Bool
fed_at uses j i = eqb (get_or uses (most_facts * j + i) 0) 1

abbrev pub free_at : Protocol → Node → List ℕ → ℕ → ℕ → Bool
free_at P x uses j i = not (is_linear P (fact_at P conclusion_list i x)) || leb (get_or uses (most_facts * j + i) 0) 1

-- ── what code asks, and what it answers, of node j, from 0 ──
abbrev pub CountsAsked : List ℕ → List ℕ → List ℕ → ℕ → Type 0
CountsAsked p nodes uses j = Asks₃ (NodeOf p nodes j) × (most_facts * (j + 1) ≤ length uses)

-- where the counts are those of some edges
abbrev pub PremisesTold : List ℕ → List ℕ → List ℕ → ℕ → Bool → Type 0
PremisesTold p nodes uses j r =
    Promises₃ (NodeOf p nodes j) (λ (s : List ℕ) (P : Protocol) (x : Node). (es : List Edge) → Into uses es → r ≡ premises_ok (protocol_facts P) es (j + 1) (rewritten P x))

abbrev pub ConclusionsTold : List ℕ → List ℕ → List ℕ → ℕ → Bool → Type 0
ConclusionsTold p nodes uses j r =
    Promises₃ (NodeOf p nodes j)
    (λ (s : List ℕ) (P : Protocol) (x : Node). (es : List Edge) → OutOf uses es → r ≡ conclusions_ok (protocol_facts P) es (j + 1) (rewritten P x))

-- what they tell
capped_one : (n : ℕ) → eqb (capped n) 1 ≡ eqb n 1
capped_one zero = refl
capped_one (suc zero) = refl
capped_one (suc (suc n)) = sym (ne_eqb (suc (suc n)) 1 (λ e. omega arith))

capped_few : (n : ℕ) → leb (capped n) 1 ≡ leb n 1
capped_few zero = refl
capped_few (suc zero) = refl
capped_few (suc (suc n)) = sym (gt_leb (suc (suc n)) 1 (omega arith))

-- ── a test of each fact of a node, by its number ──
below_first : (q : ℕ → Bool) (n : ℕ) → all_below q (suc n) ≡ (q 0 && all_below (λ i. q (suc i)) n)
unfolding all_below
below_first q zero = sym (and-true (q 0))
below_first q (suc n) =
    ap (λ (b : Bool). b && q (suc n)) (below_first q n) ∙ and_assoc (q 0) (all_below (λ i. q (suc i)) n) (q (suc n))

-- a loop that stops at a number that fails the test, or passes all of them
module _ (q : ℕ → Bool) {n : ℕ} {v : Bool} (by : all_below q n ≡ v) where
  pub loop_false : (i : ℕ) → q i ≡ false → i < n → false ≡ v
  loop_false i h l = sym (all_stop q n i h l) ∙ by

  pub loop_true : (i : ℕ) → all_below q i ≡ true → i ≡ n → true ≡ v
  loop_true i h e = sym h ∙ ap (all_below q) e ∙ by

module _ {A : Type 0} (ok : Placed A → Bool) (d : A) (k : ℕ) where
  below_placed :
      (q : ℕ → Bool) (b : ℕ) (fs : List A)
      → ((i : ℕ) → i < length fs → q i ≡ ok (record { place = place_of k (b + i); fact = get_or fs i d }))
      → all_below q (length fs) ≡ all_by ok (placed k b fs)
  unfolding all_below
  below_placed q b [] h = refl
  below_placed q b (f ∷ fs) h =
      let e : b + 0 ≡ b = omega arith in
      below_first q (length fs)
      ∙ ap₂ (λ (x y : Bool). x && y)
      (h 0 (omega arith) ∙ ap (λ (n : ℕ). ok (record { place = place_of k n; fact = f })) e)
      (below_placed (λ i. q (suc i)) (suc b) fs (λ i l.
      let m : b + suc i ≡ suc b + i = omega arith in
      h (suc i) (omega arith) ∙ ap (λ (n : ℕ). ok (record { place = place_of k n; fact = get_or fs i d })) m))

  -- the facts of a node are numbered from 1
  all_placed :
      (q : ℕ → Bool) (fs : List A) → ((i : ℕ) → i < length fs → q i ≡ ok (record { place = place_of k (suc i); fact = get_or fs i d }))
      → all_below q (length fs) ≡ all_by ok (placed k 1 fs)
  all_placed q fs h =
      below_placed q 1 fs (λ i l.
      let e : suc i ≡ 1 + i = omega arith in
      h i l ∙ ap (λ (n : ℕ). ok (record { place = place_of k n; fact = get_or fs i d })) e)

-- ── the premises of node j, by a look at the counts of so many facts ──
module _ (uses : List ℕ) (j count : ℕ) where
  abbrev pub counts_of : List ℕ
  counts_of = take count (drop (most_facts * j) uses)

  count_at : (i : ℕ) → i < count → get_or counts_of i 0 ≡ get_or uses (most_facts * j + i) 0
  count_at i l = get_or-take count (drop (most_facts * j) uses) i 0 l ∙ get_or-drop (most_facts * j) uses i 0

  pub all_fed : (r : Bool) → length counts_of ≡ count
      → MatchBool r (AllWithin (λ c. c ≡ 1) counts_of 0 (length counts_of)) ((i : ℕ) × (i < length counts_of) × HoldsAt (λ c. c ≡ 1 → ⊥) counts_of i)
      → r ≡ all_below (fed_at uses j) count
  all_fed true long h = sym (below_from (fed_at uses j) count (λ i l. eq-eqb _ 1 (sym (count_at i l) ∙ h i 0 (omega arith) (omega arith))))
  all_fed false long (i, l, h) =
      let inside : i < count = omega arith in
      sym (all_stop (fed_at uses j) count i (ne_eqb _ 1 (λ e. h 0 (count_at i inside ∙ e))) inside)

-- ── of node j in the table ──
module _ {p s nodes : List ℕ} {j : ℕ} {P : Protocol} {x : Node} (h : NodeIn p s nodes j P x) where
  pub few : (list : ℕ) → length (facts_of P list x) ≤ most_facts
  few list = facts_few P h.prepared.body.within x h.within list

  -- the number of the node, from 1
  number_is : suc j ≡ j + 1
  number_is = omega arith

  pub premises_by :
      (uses : List ℕ) (es : List Edge) → most_facts * (j + 1) ≤ length uses → Into uses es → all_below (fed_at uses j) (length (facts_of P premise_list x))
      ≡ premises_ok (protocol_facts P) es (j + 1) (rewritten P x)
  premises_by uses es room counts =
      all_placed (one_into (protocol_facts P) es) no_fact (suc j) _ (facts_of P premise_list x) (λ i l.
      ap (λ (c : ℕ). eqb c 1) (counts j i (omega (arith, few premise_list)) (omega (arith, few premise_list, room))) ∙ capped_one
      (into (place_of (suc j) (suc i)) es))
      ∙ ap (λ (k : ℕ). premises_ok (protocol_facts P) es k (rewritten P x)) number_is

  pub conclusions_by :
      (uses : List ℕ) (es : List Edge) → most_facts * (j + 1) ≤ length uses → OutOf uses es
      → all_below (free_at P x uses j) (length (facts_of P conclusion_list x))
      ≡ conclusions_ok (protocol_facts P) es (j + 1) (rewritten P x)
  conclusions_by uses es room counts =
      all_placed (one_out (protocol_facts P) es) no_fact (suc j) _ (facts_of P conclusion_list x) (λ i l.
      ap (λ (b : Bool). not (is_linear P (fact_at P conclusion_list i x)) || b)
      (ap (λ (c : ℕ). leb c 1) (counts j i (omega (arith, few conclusion_list)) (omega (arith, few conclusion_list, room))) ∙ capped_few
      (out_of (place_of (suc j) (suc i)) es)))
      ∙ ap (λ (k : ℕ). conclusions_ok (protocol_facts P) es k (rewritten P x)) number_is
