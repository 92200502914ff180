-- A test of the numbers below a bound.
use Prim.Native.Nat.{ℕ, zero, suc, ◌+◌, ◌≤◌, ◌<◌}
use Rattle.std.specs.Prelude.{Bool, true, false, ◌≡◌, eqb}
use Rattle.std.proofs.Math.Bool.{◌&&◌, and-eq-true_iff}
use Rattle.std.proofs.Math.Path.{refl, ap, ap₂, subst}
use Rattle.std.proofs.Common.{◌∙◌, ne_eqb}
use native.Mathlib.Omega.{arith}
use Rattle.std.proofs.Math.Numerals.{add-one}
use Rattle.lists.specs.Choice.{pick, cut, cut_eq, by_size}
use Rattle.lists.specs.Tests.{and_false}

-- q holds of every number below n
unfoldable pub all_below : (ℕ → Bool) → ℕ → Bool
all_below q zero = true
all_below q (suc n) = all_below q n && q n

-- the least number below n of which q holds, counted from 1; 0 if there is none
unfoldable pub least : (ℕ → Bool) → ℕ → ℕ
least q zero = 0
least q (suc n) = pick (eqb (least q n) 0) (pick (q n) (suc n) 0) (least q n)

-- ── one more number; the first that fails; the first that holds ──
module _ (q : ℕ → Bool) where
  pub all_none : all_below q 0 ≡ true
  unfolding all_below
  all_none = refl

  pub all_more : (j : ℕ) → all_below q j ≡ true → q j ≡ true → all_below q (j + 1) ≡ true
  unfolding all_below
  all_more j h k = rw add-one (ap₂ ◌&&◌ h k)

  pub all_stop : (n j : ℕ) → q j ≡ false → j < n → all_below q n ≡ false
  unfolding all_below
  all_stop zero j h l = absurd (omega arith)
  all_stop (suc n) j h l =
      by_size j n
      (λ k. ap (λ (b : Bool). b && q n) (all_stop n j h k))
      (λ k. let e : n ≡ j = omega arith in ap (λ (b : Bool). all_below q n && b) (ap q e ∙ h) ∙ and_false (all_below q n))

  pub least_none : least q 0 ≡ 0
  unfolding least
  least_none = refl

  pub least_more : (j : ℕ) → least q j ≡ 0 → q j ≡ false → least q (j + 1) ≡ 0
  unfolding least
  least_more j h k = rw add-one (ap₂ (λ (m : ℕ) (b : Bool). pick (eqb m 0) (pick b (suc j) 0) m) h k)

  stays : (n j : ℕ) → least q n ≡ suc j → least q (suc n) ≡ suc j
  unfolding least
  stays n j h =
      ap (λ (m : ℕ). pick (eqb m 0) (pick (q n) (suc n) 0) m) h ∙ simp (ne_eqb (suc j) 0 (λ e. omega arith))

  hit_here : (n j : ℕ) → least q j ≡ 0 → q j ≡ true → n ≡ j → least q (suc n) ≡ j + 1
  unfolding least
  hit_here n j h k e =
      let z : suc n ≡ j + 1 = omega arith in
      ap₂ (λ (m : ℕ) (b : Bool). pick (eqb m 0) (pick b (suc n) 0) m) (ap (least q) e ∙ h) (ap q e ∙ k) ∙ z

  pub least_hit : (n j : ℕ) → least q j ≡ 0 → q j ≡ true → j < n → least q n ≡ j + 1
  unfolding least
  least_hit zero j h k l = absurd (omega arith)
  least_hit (suc n) j h k l =
      by_size j n
      (λ b. rw add-one (stays n j (rw add-one at (least_hit n j h k b))))
      (λ b. hit_here n j h k (omega arith))

  -- ── all of them, one by one ──
  pub below_to : (n : ℕ) → all_below q n ≡ true → (v : ℕ) → v < n → q v ≡ true
  unfolding all_below
  below_to zero h v l = absurd (omega arith)
  below_to (suc n) h v l =
      let a = (and-eq-true_iff (all_below q n) (q n)).0 h in
      by_size v n (below_to n a.0 v) (λ k. let e : n ≡ v = omega arith in subst (λ (i : ℕ). q i ≡ true) e a.1)

  pub below_from : (n : ℕ) → ((v : ℕ) → v < n → q v ≡ true) → all_below q n ≡ true
  unfolding all_below
  below_from zero f = refl
  below_from (suc n) f = ap₂ ◌&&◌ (below_from n (λ v l. f v (omega arith))) (f n (omega arith))

-- ── the least, exactly ──
module _ (q : ℕ → Bool) where
  -- k is the first of n of which q holds
  pub record First (n k : ℕ) : Type 0 where
    pub inside : k < n
    pub hit : q k ≡ true
    pub before : (i : ℕ) → i < k → q i ≡ false

  pub least_zero : (n : ℕ) → least q n ≡ 0 → (i : ℕ) → i < n → q i ≡ false
  unfolding least
  least_zero zero h i l = absurd (omega arith)
  least_zero (suc n) h i l =
      cut_eq _ _ _ (least q n) 0 h
      (λ z h. cut _ _ _ (q n) h
      (λ t h. absurd (omega arith))
      (λ t h. by_size i n (least_zero n z i) (λ k. let e : n ≡ i = omega arith in subst (λ (j : ℕ). q j ≡ false) e t)))
      (λ z h. absurd (z h))

  pub least_some : (n k : ℕ) → least q n ≡ suc k → First n k
  unfolding least
  least_some zero k h = absurd (omega arith)
  least_some (suc n) k h =
      cut_eq _ _ _ (least q n) 0 h
      (λ z h. cut _ _ _ (q n) h
      (λ t h. let e : n ≡ k = omega arith in
      record { inside = omega arith; hit = subst (λ (j : ℕ). q j ≡ true) e t; before = λ i l. least_zero n z i (omega arith) })
      (λ t h. absurd (omega arith)))
      (λ z h. let f = least_some n k h in record { inside = omega (arith, f.inside); hit = f.hit; before = f.before })

  pub none_least : (n : ℕ) → ((i : ℕ) → i < n → q i ≡ false) → least q n ≡ 0
  unfolding least
  none_least zero f = refl
  none_least (suc n) f =
      ap (λ (m : ℕ). pick (eqb m 0) (pick (q n) (suc n) 0) m) (none_least n (λ i l. f i (omega arith)))
      ∙ ap (λ (b : Bool). pick b (suc n) 0) (f n (omega arith))

  pub first_least : (n k : ℕ) → First n k → least q n ≡ suc k
  first_least n k f = least_hit q n k (none_least k f.before) f.hit f.inside ∙ omega arith

  pub least_bound : (n : ℕ) → least q n ≤ n
  least_bound n = within (least q n) refl
    where
      within : (m : ℕ) → least q n ≡ m → m ≤ n
      within zero h = omega arith
      within (suc k) h = omega (arith, (least_some n k h).inside)
