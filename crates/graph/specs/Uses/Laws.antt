-- One end more, and the counts of all edges.
use Rattle.std.specs.Prelude.{ℕ, zero, suc, ◌+◌, ◌*◌, ◌<◌, List, [], ◌∷◌, Bool, true, ◌≡◌, refl, length, get_or, set, replicate}
use Rattle.std.proofs.Common.{ap, ap₂, sym, ◌∙◌, arith, length-set, get_or-set_same, get_or-set_other}
use Rattle.lists.specs.Tests.{by_bool, true_false}
use Rattle.lists.specs.Lists.{bit, count_by}
use Rattle.lists.specs.Lists.Laws.{zeros_at}
use Rattle.rewriting.specs.Graph.{Place, Edge, same_place}
use Rattle.rewriting.specs.Places.Laws.{place_eq, place_self}
use Rattle.protocol.specs.Figures.{most_facts}
use Rattle.graph.specs.Graph.{place_of}
use Rattle.graph.specs.Table.{edge_fields, end_at, no_edge, EdgesIn}
use Rattle.graph.specs.Uses.{capped, one_more, count_up, count_place, EndInside, Counted, CountsOf}

-- ── counts ──
capped_more : (n : ℕ) → one_more (capped n) ≡ capped (suc n)
capped_more zero = refl
capped_more (suc zero) = refl
capped_more (suc (suc n)) = refl

-- the first of them apart
up_first : (q : ℕ → Bool) (m : ℕ) → count_up q (suc m) ≡ bit (q 0) + count_up (λ j. q (suc j)) m
up_first q zero = omega arith
up_first q (suc m) = omega (arith, up_first q m)

up_list : {A : Type 0} (q : ℕ → Bool) (r : A → Bool) (d : A) (xs : List A) → ((j : ℕ) → j < length xs → r (get_or xs j d) ≡ q j)
    → count_up q (length xs) ≡ count_by r xs
up_list q r d [] h = refl
up_list q r d (x ∷ xs) h =
    up_first q (length xs)
    ∙ ap₂ (λ (b : Bool) (n : ℕ). bit b + n) (sym (h 0 (omega arith))) (up_list (λ j. q (suc j)) r d xs (λ j l. h (suc j) (omega arith)))

-- ── one end more ──
-- the count of a fact after that of an end
module _ (counts : List ℕ) (end : Place) (inside : EndInside end) (k i : ℕ) (h : i < most_facts) (l : most_facts * k + i < length counts) where
  abbrev at : ℕ
  at = count_place end

  -- the end is the fact just where they have one count
  one_place : same_place (place_of (suc k) (suc i)) end ≡ true → most_facts * k + i ≡ at
  one_place t =
      let e = place_eq (place_of (suc k) (suc i)) end t in
      let a : suc k ≡ end.node = ap (λ (p : Place). p.node) e in
      let b : suc i ≡ end.index = ap (λ (p : Place). p.index) e in
      omega arith

  place_one : most_facts * k + i ≡ at → same_place (place_of (suc k) (suc i)) end ≡ true
  place_one q =
      let a : suc k ≡ end.node = omega (arith, inside.from_one, inside.index_few) in
      let b : suc i ≡ end.index = omega (arith, inside.from_one, inside.index_few) in
      ap₂ (λ (m n : ℕ). same_place (place_of m n) end) a b ∙ place_self end

  more_at :
      (n : ℕ) → get_or counts (most_facts * k + i) 0 ≡ capped n
      → get_or (set counts at (one_more (get_or counts at 0))) (most_facts * k + i) 0 ≡ capped (n + bit (same_place (place_of (suc k) (suc i)) end))
  more_at n c =
      by_bool (same_place (place_of (suc k) (suc i)) end)
      (λ t.
      let q = one_place t in
      let m : suc n ≡ n + 1 = omega arith in
      let r : at < length counts = omega (arith, q) in
      ap (λ (j : ℕ). get_or (set counts at (one_more (get_or counts at 0))) j 0) q
      ∙ get_or-set_same counts at _ 0 r
      ∙ ap one_more (ap (λ (j : ℕ). get_or counts j 0) (sym q) ∙ c)
      ∙ capped_more n ∙ ap capped m ∙ ap (λ (b : Bool). capped (n + bit b)) (sym t))
      (λ f.
      let m : n ≡ n + 0 = omega arith in
      get_or-set_other counts at (most_facts * k + i) _ 0 (λ q. true_false _ (place_one q) f)
      ∙ c ∙ ap capped m ∙ ap (λ (b : Bool). capped (n + bit b)) (sym f))

module _ (edges : List ℕ) (field : ℕ) where
  pub counted_none : (n : ℕ) → Counted edges 0 field (replicate n 0)
  counted_none n k i h l = zeros_at n (most_facts * k + i)

  pub counted_more :
      (m : ℕ) (counts : List ℕ) → EndInside (end_at edges (edge_fields * m + field)) → Counted edges m field counts
      → (at v : ℕ) → at ≡ count_place (end_at edges (edge_fields * m + field)) → v ≡ one_more (get_or counts at 0)
      → Counted edges (m + 1) field (set counts at v)
  counted_more m counts inside came at v is more k i h l =
      let e : suc m ≡ m + 1 = omega arith in
      let r : most_facts * k + i < length counts = omega (arith, l, length-set counts at v) in
      ap (λ (n : ℕ). get_or (set counts at n) (most_facts * k + i) 0) more
      ∙ ap (λ (j : ℕ). get_or (set counts j (one_more (get_or counts j 0))) (most_facts * k + i) 0) is
      ∙ more_at counts (end_at edges (edge_fields * m + field)) inside k i h r _ (came k i h r)
      ∙ ap (λ (n : ℕ). capped (count_up (λ j. same_place (place_of (suc k) (suc i)) (end_at edges (edge_fields * j + field))) n)) e

-- ── of the edges that stand in the table ──
pub counts_of :
    {edges : List ℕ} {m : ℕ} {es : List Edge} → EdgesIn edges m es → (end : Edge → Place) (field : ℕ)
    → ((j : ℕ) → j < m → end (get_or es j no_edge) ≡ end_at edges (edge_fields * j + field)) → (counts : List ℕ) → Counted edges m field counts
    → CountsOf counts end es
counts_of {edges} {m} {es} stand end field same counts came k i h l =
    came k i h l
    ∙ ap (λ (n : ℕ). capped (count_up (λ j. same_place (place_of (suc k) (suc i)) (end_at edges (edge_fields * j + field))) n)) (sym stand.count)
    ∙ ap capped (up_list _ (λ e. same_place (place_of (suc k) (suc i)) (end e)) no_edge es
    (λ j b. ap (same_place (place_of (suc k) (suc i))) (same j (omega (arith, stand.count)))))
