-- Sorts and terms one after another: what a loop has passed, and the codes that it has.
use Rattle.std.specs.Prelude.{ℕ, ◌+◌, ◌≤◌, ◌<◌, List, [], ◌∷◌, ◌++◌, map, ◌≡◌, length, take, set}
use Rattle.std.proofs.Math.Path.{refl}
use Rattle.std.proofs.Common.{sym, ap, ap₂, ◌∙◌, arith, add-one, length-set, take-suc-set}
use Rattle.number.specs.Reading.{got, many}
use Rattle.number.specs.Reading.Many.{many_snoc, many_nth, Came, came_none, came_more}
use Rattle.protocol.specs.Figures.{most_fact_arity}
use Rattle.property.specs.Formula.{Sort, Term}
use Rattle.property.specs.Layout.{term_at, sort_at}
use Rattle.judge.specs.declared.reading.Num.{Num}
use Rattle.judge.specs.Bindings.{code}
use Rattle.judge.specs.Reading.{NumberIs, TermIs, SortsAre, TermsAre}
use Rattle.judge.specs.Reading.Parts.{tells_sort}

module _ (file : List ℕ) where
  -- ── a loop has passed j of k sorts and stands at i ──
  pub record Sorting (at k j i : ℕ) : Type 0 where
    pub few : j ≤ k
    pub so_far : (s : List Sort) (e : ℕ) → many (sort_at file) k at ≡ got s e → Came (sort_at file) at j i

  pub sorting_begins : (at k : ℕ) → Sorting at k 0 at
  sorting_begins at k = record { few = omega arith; so_far = λ s e h. came_none (sort_at file) at }

  pub sorting_next : {at k j i : ℕ} {r : Num} → j < k → Sorting at k j i → NumberIs file i r → Sorting at k (j + 1) r.next
  sorting_next {at} {k} {j} {i} {r} l w n =
      record {
        few = omega arith;
        so_far = λ s e h.
            let c = w.so_far s e h in
            let t = many_nth (sort_at file) k at e j s h l in
            let p : t.place ≡ i = cc (t.before, c.there) in
            let g : sort_at file i ≡ got t.item t.next = ap (sort_at file) (sym p) ∙ t.here in
            let q : r.next ≡ t.next = tells_sort file n t.item t.next g in
            came_more (sort_at file) at j i r.next t.item c (g ∙ ap (got t.item) (sym q));
      }

  pub sorting_ends : {at k j i : ℕ} → ¬ (j < k) → Sorting at k j i → SortsAre file at k i
  sorting_ends {at} {k} {j} {i} l w =
      record {
        says = λ s e h.
            let z : j ≡ k = omega (arith, w.few) in
            let c = w.so_far s e h in
            let g : many (sort_at file) k at ≡ got c.items i = ap (λ (m : ℕ). many (sort_at file) m at) (sym z) ∙ c.there in
            (cc);
      }

  -- ── the same of terms, and the codes of those passed ──
  pub record Stage (at j i : ℕ) (codes : List ℕ) : Type 0 where
    pub front : List Term
    pub there : many (term_at file) j at ≡ got front i
    pub coded : take j codes ≡ map code front

  pub record Coding (at k j i : ℕ) (codes : List ℕ) : Type 0 where
    pub few : j ≤ k
    pub long : length codes ≡ most_fact_arity
    pub so_far : (ts : List Term) (e : ℕ) → many (term_at file) k at ≡ got ts e → Stage at j i codes

  pub coding_begins : (at k : ℕ) (codes : List ℕ) → length codes ≡ most_fact_arity → Coding at k 0 at codes
  unfolding many
  coding_begins at k codes l = record { few = omega arith; long = l; so_far = λ ts e h. record { front = []; there = refl; coded = refl } }

  map_snoc : (l : List Term) (t : Term) → map code (l ++ (t ∷ [])) ≡ map code l ++ (code t ∷ [])
  map_snoc [] t = refl
  map_snoc (x ∷ l) t = ap (λ (r : List ℕ). code x ∷ r) (map_snoc l t)

  pub coding_next :
      {at k j i : ℕ} {codes : List ℕ} {r : Num} → j < k → k ≤ most_fact_arity → Coding at k j i codes → TermIs file i r
      → Coding at k (j + 1) r.next (set codes j r.value)
  coding_next {at} {k} {j} {i} {codes} {r} l few w n =
      record {
        few = omega arith;
        long = length-set codes j r.value ∙ w.long;
        so_far = λ ts e h.
            let c = w.so_far ts e h in
            let t = many_nth (term_at file) k at e j ts h l in
            let p : t.place ≡ i = cc (t.before, c.there) in
            let g : term_at file i ≡ got t.item t.next = ap (term_at file) (sym p) ∙ t.here in
            let q = n.says t.item t.next g in
            record {
              front = c.front ++ (t.item ∷ []);
              there = rw add-one (many_snoc (term_at file) j at i r.next c.front t.item c.there (g ∙ ap (got t.item) (sym q.1)));
              coded = rw add-one (take-suc-set codes j r.value (omega (arith, w.long))
                  ∙ ap₂ (λ (a : List ℕ) (b : ℕ). a ++ (b ∷ [])) c.coded q.0 ∙ sym (map_snoc c.front t.item));
            };
      }

  pub coding_ends : {at k j i : ℕ} {codes : List ℕ} → ¬ (j < k) → Coding at k j i codes → TermsAre file at k (record { codes = codes; next = i })
  coding_ends {at} {k} {j} {i} {codes} l w =
      record {
        says = λ ts e h.
            let z : j ≡ k = omega (arith, w.few) in
            let c = w.so_far ts e h in
            let g : many (term_at file) k at ≡ got c.front i = ap (λ (m : ℕ). many (term_at file) m at) (sym z) ∙ c.there in
            let q : c.front ≡ ts = cc in
            (ap (λ (m : ℕ). take m codes) (sym z) ∙ c.coded ∙ ap (map code) q, (cc));
      }
