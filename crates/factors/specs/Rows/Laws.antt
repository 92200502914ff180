-- Entering a factor into a table.
use Rattle.std.specs.Prelude.{ℕ, ◌+◌, ◌-◌, ◌≤◌, ◌<◌, ◌≡◌, length, take, drop, get_or, ℤ, ◌+ℤ◌, nat_abs}
use Rattle.std.proofs.Common.{sym, ap₂, ◌∙◌, length-take-le}
use Rattle.std.proofs.lemmas.List.{get_or-take}
use Rattle.std.proofs.Math.Path.{ap}
use mathlib.Core.List.{List, [], ◌∷◌}
use Rattle.std.proofs.Math.Decide.{dec_lt}
use native.Mathlib.Omega.{arith}
use Rattle.octets.specs.Compare.{compare_bytes}
use Rattle.octets.specs.Head.{Stands, head_of, stands_part, stands_within}
use Rattle.std.specs.declared.cmp.Ordering.{Ordering}
use Rattle.std.specs.declared.cmp.Ordering.TheVariants.{Less, Equal, Greater}
use Rattle.term.specs.Term.{Term, encode}
use Rattle.term.specs.Term.Laws.{encode_some}
use Rattle.message.specs.Product.{Exps, empty, part, order, Above}
use Rattle.message.specs.Gather.{enter}
use Rattle.message.specs.Gather.{Asc}
use Rattle.factors.specs.Mass.{size, mass}
use Rattle.factors.specs.declared.Entry.{Entry}
use Rattle.factors.specs.Rows.{entry, power_of, bytes_at, Rows, Table, order_at}

-- a part of two bytes
pub part_two :
    (s : List ℕ) (a e : ℕ) → e - a ≡ 2 → a + 1 < length s → take (e - a) (drop a s) ≡ get_or s a 0 ∷ get_or s (a + 1) 0 ∷ []
part_two s a e q h =
    rw q (ap (take 2) (head_of s a (omega arith) ∙ ap (λ (r : List ℕ). get_or s a 0 ∷ r) (head_of s (a + 1) h)))

-- the order of these bytes and an entry is that of the terms
terms_order :
    (t u : Term) {key src : List ℕ} {c d : ℕ} {o : Ordering} → key ≡ encode t → Stands src c (encode u) d
    → compare_bytes key (take (d - c) (drop c src)) ≡ o → order t u ≡ o
terms_order t u K Q h = sym (ap₂ compare_bytes K (stands_part Q)) ∙ h

-- a new entry x at i, those from i on moved up by one
pub record Opened (T T' : List Entry) (i n : ℕ) (x : Entry) : Type 0 where
  pub here : entry T' i ≡ x
  pub below : (j : ℕ) → j < i → entry T' j ≡ entry T j
  pub above : (j : ℕ) → i ≤ j → j < n → entry T' (j + 1) ≡ entry T j

-- the exponent of entry i is v, the others stand
pub record Raised (T T' : List Entry) (i n : ℕ) (v : ℤ) : Type 0 where
  pub start : (entry T' i).start ≡ (entry T i).start
  pub end : (entry T' i).end ≡ (entry T i).end
  pub power : power_of T' i ≡ v
  pub other : (j : ℕ) → (j ≡ i → ⊥) → j < n → entry T' j ≡ entry T j

module _ (src : List ℕ) (T : List Entry) where
  -- ── what the entries are ──
  pub rows_bounds :
      (base : ℕ) (l : Exps) → Rows src T base l → (j : ℕ) → base ≤ j → j < base + size l
      → ((entry T j).start ≤ (entry T j).end) × ((entry T j).end ≤ length src)
  unfolding Rows size
  rows_bounds base empty R j h g = absurd (omega arith)
  rows_bounds base (part t k l) R j h g = elim (dec_lt base j) [
    | yes p ↦ rows_bounds (base + 1) l R.2 j (omega arith) (omega arith)
    | no p ↦ (let z : j ≡ base = omega arith in rw z (omega (arith, R.0.ends), stands_within R.0 (encode_some t)))
  ]

  pub rows_abs : (base : ℕ) (l : Exps) → Rows src T base l → (j : ℕ) → base ≤ j → j < base + size l → nat_abs (power_of T j) ≤ mass l
  unfolding Rows size mass
  rows_abs base empty R j h g = absurd (omega arith)
  rows_abs base (part t k l) R j h g = elim (dec_lt base j) [
    | yes p ↦ (let i = rows_abs (base + 1) l R.2 j (omega arith) (omega arith) in omega arith)
    | no p ↦ (let z : j ≡ base = omega arith in rw (z, R.1) (omega arith))
  ]

  -- ── the entries ascend ──
  rows_after :
      (v : Term) (base : ℕ) (l : Exps) → Above v l → Rows src T base l → (j : ℕ) → base ≤ j → j < base + size l
      → compare_bytes (encode v) (bytes_at src T j) ≡ Less
  unfolding Rows size
  rows_after v base empty A R j h g = absurd (omega arith)
  rows_after v base (part t k l) A R j h g = elim (dec_lt base j) [
    | yes p ↦ rows_after v (base + 1) l A.1 R.2 j (omega arith) (omega arith)
    | no p ↦ (let z : j ≡ base = omega arith in rw z (ap (compare_bytes (encode v)) (stands_part R.0) ∙ A.0))
  ]

  pub rows_rising :
      (base : ℕ) (l : Exps) → Asc l → Rows src T base l → (i j : ℕ) → base ≤ i → i < j → j < base + size l
      → compare_bytes (bytes_at src T i) (bytes_at src T j) ≡ Less
  unfolding Rows size
  rows_rising base empty A R i j b h g = absurd (omega arith)
  rows_rising base (part t k l) A R i j b h g = elim (dec_lt base i) [
    | yes p ↦ rows_rising (base + 1) l A.1 R.2 i j (omega arith) h (omega arith)
    | no p ↦
        (let z : i ≡ base = omega arith in
        rw z (ap (λ (x : List ℕ). compare_bytes x (bytes_at src T j)) (stands_part R.0) ∙ rows_after t (base + 1) l A.0 R.2 j (omega arith)
        (omega arith)))
  ]

  -- ── the same entries in another table ──
  pub rows_as :
      (T' : List Entry) (base : ℕ) (l : Exps) → ((j : ℕ) → base ≤ j → j < base + size l → entry T' j ≡ entry T j) → Rows src T base l → Rows src T' base l
  unfolding Rows size
  rows_as T' base empty e R = tt
  rows_as T' base (part t k l) e R =
      (rw (e base (omega arith) (omega arith)) R.0, ap (λ (x : Entry). x.power) (e base (omega arith) (omega arith)) ∙ R.1, rows_as T' (base + 1) l (λ j h g. e j (omega arith) (omega arith)) R.2)

  module _ (key : List ℕ) (n i : ℕ) (k : ℤ) (t : Term) (K : key ≡ encode t) (before : (j : ℕ) → j < i → order_at key src T j ≡ Greater) where
    -- ── a new entry ──
    module _ (here : i < n → order_at key src T i ≡ Less) where
      module _ (a e : ℕ) (there : Stands src a (encode t) e) (T' : List Entry) (O : Opened T T' i n (record { start = a; end = e; power = k })) where
        rows_up : (base : ℕ) (l : Exps) → i ≤ base → base + size l ≤ n → Rows src T base l → Rows src T' (base + 1) l
        unfolding Rows size
        rows_up base empty h g R = tt
        rows_up base (part u j l) h g R = (
          rw (O.above base h (omega arith)) R.0,
          ap (λ (x : Entry). x.power) (O.above base h (omega arith)) ∙ R.1,
          rows_up (base + 1) l (omega arith) (omega arith) R.2,
        )

        pub rows_in : (base : ℕ) (l : Exps) → base ≤ i → i ≤ n → base + size l ≡ n → Rows src T base l → Rows src T' base (enter t k l)
        unfolding Rows size enter
        rows_in base empty h g q R = let z : base ≡ i = omega arith in rw z (rw O.here there, ap (λ (x : Entry). x.power) O.here, tt)
        rows_in base (part u j l) h g q R = elim (dec_lt base i) [
          | yes p ↦
              (let o : order t u ≡ Greater = terms_order t u K R.0 (before base p) in
              rw o (rw (O.below base p) R.0, ap (λ (x : Entry). x.power) (O.below base p) ∙ R.1, rows_in (base + 1) l (omega arith) g (omega arith) R.2))
          | no p ↦
              (let z : base ≡ i = omega arith in
              let o : order t u ≡ Less = terms_order t u K R.0 (rw z (here (omega arith))) in
              rw o (rw (z, O.here) there, rw z (ap (λ (x : Entry). x.power) O.here), rows_up base (part u j l) (omega arith) (omega arith) R))
        ]

      pub size_in_lem : (base : ℕ) (l : Exps) → base ≤ i → i ≤ n → base + size l ≡ n → Rows src T base l → size (enter t k l) ≡ size l + 1
      unfolding Rows size enter
      size_in_lem base empty h g q R = omega arith
      size_in_lem base (part u j l) h g q R = elim (dec_lt base i) [
        | yes p ↦
            (let o : order t u ≡ Greater = terms_order t u K R.0 (before base p) in
            rw o (omega (arith, size_in_lem (base + 1) l (omega arith) g (omega arith) R.2)))
        | no p ↦
            (let z : base ≡ i = omega arith in
            let o : order t u ≡ Less = terms_order t u K R.0 (rw z (here (omega arith))) in
            rw o (omega arith))
      ]

    -- ── an entry that stands there already ──
    module _ (here : order_at key src T i ≡ Equal) where
      module _ (T' : List Entry) (v : ℤ) (ev : v ≡ power_of T i +ℤ k) (C : Raised T T' i n v) where
        pub rows_same : (base : ℕ) (l : Exps) → base ≤ i → i < n → base + size l ≡ n → Rows src T base l → Rows src T' base (enter t k l)
        unfolding Rows size enter
        rows_same base empty h g q R = absurd (omega arith)
        rows_same base (part u j l) h g q R = elim (dec_lt base i) [
          | yes p ↦
              (let o : order t u ≡ Greater = terms_order t u K R.0 (before base p) in
              let c : entry T' base ≡ entry T base = C.other base (λ z. omega arith) (omega arith) in
              rw o (rw c R.0, ap (λ (x : Entry). x.power) c ∙ R.1, rows_same (base + 1) l (omega arith) g (omega arith) R.2))
          | no p ↦
              (let z : base ≡ i = omega arith in
              let o : order t u ≡ Equal = terms_order t u K R.0 (rw z here) in
              let w : v ≡ j +ℤ k = ev ∙ ap (λ y. y +ℤ k) (sym (rw z at (sym R.1))) in
              rw o (
                rw (z, C.start, C.end) (rw z at R.0),
                rw z C.power ∙ w,
                rows_as T' (base + 1) l (λ m a b. C.other m (λ z. omega arith) (omega arith)) R.2,
              ))
        ]

      pub size_same : (base : ℕ) (l : Exps) → base ≤ i → i < n → base + size l ≡ n → Rows src T base l → size (enter t k l) ≡ size l
      unfolding Rows size enter
      size_same base empty h g q R = absurd (omega arith)
      size_same base (part u j l) h g q R = elim (dec_lt base i) [
        | yes p ↦
            (let o : order t u ≡ Greater = terms_order t u K R.0 (before base p) in
            rw o (omega (arith, size_same (base + 1) l (omega arith) g (omega arith) R.2)))
        | no p ↦
            (let z : base ≡ i = omega arith in
            let o : order t u ≡ Equal = terms_order t u K R.0 (rw z here) in
            rw o)
      ]

-- ── the front of a table ──
pub front_as : (T : List Entry) (n j : ℕ) → j < n → entry (take n T) j ≡ entry T j
front_as T n j h = get_or-take n T j _ h

pub table_front :
    (src : List ℕ) (T : List Entry) (n : ℕ) (l : Exps) → n ≤ length T → Table src T n l → Table src (take n T) (length (take n T)) l
table_front src T n l h X = record {
  rows = rows_as src T (take n T) 0 l (λ j a b. front_as T n j (omega (arith, X.many))) X.rows;
  many = X.many ∙ sym (length-take-le n T h);
}
