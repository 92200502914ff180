-- Readings of a property file go forward: so the rest of the formula gets shorter.
use Prim.Native.Nat.{ℕ, zero, suc, ◌+◌, ◌≤◌, ◌<◌}
use Rattle.std.specs.Prelude.{List, ◌≡◌, length, get_or}
use Rattle.std.proofs.Common.{ap}
use native.Mathlib.Omega.{arith}
use Rattle.lists.specs.Choice.{cut_lt, cut_eq, clash}
use Rattle.number.specs.Groups.{base, most_groups}
use Rattle.number.specs.Reading.{Read, got, fault, longer, read_in, read_number, below, many, counted}
use Rattle.number.specs.Reading.Laws.{cut_got}
use Rattle.number.specs.Reading.Many.{many_forward}
use Rattle.protocol.specs.Figures.{message_sort}
use Rattle.property.specs.Figures.{false_tag, before_tag, action_tag, most_new, time_sort, term_tags}
use Rattle.property.specs.Formula.{Sort, Term, Atom, Formula}
use Rattle.property.specs.Layout.{Timed, Head, term_at, sort_at, fact_at, timed_at, head_at, equal_at, times_at, action_at, atom_at}
use Rattle.property.specs.Reads.{Reads, r_false, r_atom, r_pair, r_quant}
use Rattle.judge.specs.declared.reading.Num.{Num}
use Rattle.judge.specs.Reading.{NumberIs}
use Rattle.judge.specs.Reading.Parts.{number_got}

-- ── for crate number: a number takes some bytes of the file ──
cut_longer : {C : Type 0} {v e : ℕ} (b : ℕ) (r : Read ℕ) → longer b r ≡ got v e → ((w : ℕ) → r ≡ got w e → C) → C
cut_longer {C} {v} {e} b (got w d) h k = cut_eq _ _ _ w 0 h (λ z h. clash (cc)) (λ z h. k w (ap (got w) (cc)))
cut_longer b fault h k = clash (cc)

module _ (file : List ℕ) where
  in_forward : (k at v e : ℕ) → read_in k file at ≡ got v e → (at < e) × (e ≤ length file)
  unfolding read_in
  in_forward zero at v e h = clash (cc)
  in_forward (suc k) at v e h =
      cut_lt _ _ _ at (length file) h
      (λ inside h. cut_lt _ _ _ (get_or file at 0) base h
      (λ l h. let q : at + 1 ≡ e = cc in (omega arith, omega arith))
      (λ l h. cut_longer (get_or file at 0) (read_in k file (at + 1)) h
      (λ w r. let q = in_forward k (at + 1) w e r in (omega (arith, q.0), q.1))))
      (λ out h. clash (cc))

  pub number_forward : (at v e : ℕ) → read_number file at ≡ got v e → (at < e) × (e ≤ length file)
  unfolding read_number
  number_forward at v e h = in_forward most_groups at v e h

  below_on : (n at v e : ℕ) → below file n at ≡ got v e → at ≤ e
  unfolding below
  below_on n at v e h =
      cut_got (read_number file at) _ h (λ w d hw h. cut_lt _ _ _ w n h
      (λ _ h. let z : d ≡ e = cc in omega (arith, number_forward at w d hw))
      (λ _ h. clash (cc)))

  number_on : (at v e : ℕ) → read_number file at ≡ got v e → at ≤ e
  number_on at v e h = omega (arith, number_forward at v e h)

  -- ── the parts of a formula ──
  term_on : (at : ℕ) (t : Term) (e : ℕ) → term_at file at ≡ got t e → at ≤ e
  unfolding term_at
  term_on at t e h =
      cut_got (below file term_tags at) _ h (λ v d hv h. cut_got (read_number file d) _ h (λ m c hm h.
      let z : c ≡ e = cc in omega (arith, below_on term_tags at v d hv, number_on d m c hm)))

  sort_on : (at : ℕ) (s : Sort) (e : ℕ) → sort_at file at ≡ got s e → at ≤ e
  unfolding sort_at
  sort_on at s e h =
      cut_got (read_number file at) _ h (λ v d hv h. cut_eq _ _ _ v message_sort h
      (λ _ h. let z : d ≡ e = cc in omega (arith, number_on at v d hv))
      (λ _ h. cut_eq _ _ _ v time_sort h (λ _ h. let z : d ≡ e = cc in omega (arith, number_on at v d hv)) (λ _ h. clash (cc))))

  module _ (ars : List ℕ) where
    timed_on : (at : ℕ) (g : Timed) (e : ℕ) → timed_at file ars at ≡ got g e → at ≤ e
    unfolding timed_at fact_at
    timed_on at g e h =
        cut_got (fact_at file ars at) _ h (λ p j hp h. cut_got (read_number file j) _ h (λ u m hu h.
        cut_got (below file (length ars) at) _ hp (λ s l hs hp. cut_got (many (term_at file) (get_or ars s 0) l) _ hp (λ ts o ht hp.
        let a : o ≡ j = cc in
        let b : m ≡ e = cc in
        omega (arith, below_on (length ars) at s l hs, many_forward (term_at file) term_on (get_or ars s 0) l ts o ht, number_on j u m hu)))))

    pub head_on : (at : ℕ) (h : Head) (e : ℕ) → head_at file ars at ≡ got h e → at ≤ e
    unfolding head_at counted
    head_on at h d e =
        cut_got (counted file most_new (sort_at file) at) _ e (λ s j es e. cut_got (timed_at file ars j) _ e (λ g m eg e.
        cut_got (below file (most_new + 1) at) _ es (λ n o en es.
        let b : m ≡ d = cc in
        omega (arith, below_on (most_new + 1) at n o en, many_forward (sort_at file) sort_on n o s j es, timed_on j g m eg))))

    atom_on : (tag at : ℕ) (a : Atom) (e : ℕ) → atom_at file ars tag at ≡ got a e → at ≤ e
    unfolding equal_at times_at action_at
    atom_on tag at a e h =
        cut_lt _ _ _ tag before_tag h
        (λ _ h. cut_got (term_at file at) _ h (λ t d ht h. cut_got (term_at file d) _ h (λ u c hu h.
        let z : c ≡ e = cc in omega (arith, term_on at t d ht, term_on d u c hu))))
        (λ _ h. cut_lt _ _ _ tag action_tag h
        (λ _ h. cut_got (read_number file at) _ h (λ t d ht h. cut_got (read_number file d) _ h (λ u c hu h.
        let z : c ≡ e = cc in omega (arith, number_on at t d ht, number_on d u c hu))))
        (λ _ h. cut_got (timed_at file ars at) _ h (λ g d hg h. let z : d ≡ e = cc in omega (arith, timed_on at g d hg))))

    -- ── a formula ──
    -- code has read the tag that stands there
    pub reads_tag : {at k : ℕ} {φ : Formula} {r : Num} → Reads file ars at φ k → NumberIs file at r → read_number file at ≡ got r.value r.next
    reads_tag {k = k} (r_false h) n = number_got false_tag k n h
    reads_tag (r_atom {i = i} {tag = t} h l g e) n = number_got t i n h
    reads_tag (r_pair {i = i} {tag = t} h l x y e) n = number_got t i n h
    reads_tag (r_quant {i = i} {tag = t} h l g x e) n = number_got t i n h

    pub reads_inside : {at k : ℕ} {φ : Formula} → Reads file ars at φ k → at < length file
    reads_inside {at} {k} (r_false h) = omega (arith, number_forward at false_tag k h)
    reads_inside {at} (r_atom {i = i} {tag = t} h l g e) = omega (arith, number_forward at t i h)
    reads_inside {at} (r_pair {i = i} {tag = t} h l x y e) = omega (arith, number_forward at t i h)
    reads_inside {at} (r_quant {i = i} {tag = t} h l g x e) = omega (arith, number_forward at t i h)

    pub reads_later : {at k : ℕ} {φ : Formula} → Reads file ars at φ k → at < k
    reads_later {at} {k} (r_false h) = (number_forward at false_tag k h).0
    reads_later {at} {k} (r_atom {i = i} {tag = t} {a = a} h l g e) = omega (arith, number_forward at t i h, atom_on t i a k g)
    reads_later {at} (r_pair {i = i} {tag = t} h l x y e) = omega (arith, number_forward at t i h, reads_later x, reads_later y)
    reads_later {at} (r_quant {i = i} {j = j} {tag = t} {h = hd} h l g x e) = omega (arith, number_forward at t i h, head_on i hd j g, reads_later x)
