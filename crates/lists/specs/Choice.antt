-- A value by a test, and what a definition by tests on numbers says of its value.
use Rattle.std.specs.Prelude.{ℕ, ◌≤◌, ◌<◌, Bool, true, false, ◌≡◌, refl, ltb, eqb}
use Rattle.std.proofs.Common.{arith, ltb-true, ltb-false, eqb-true}
use Rattle.std.proofs.Math.Decide.{dec_lt}
use Rattle.std.proofs.lemmas.Bool.{eqb-false}

-- a if the test holds, else b
abbrev pub pick {ℓ} : {A : Type ℓ} → Bool → A → A → A
pick true a b = a
pick false a b = b

pub pick_same : {A : Type 0} (t : Bool) (a : A) → pick t a a ≡ a
pick_same true a = refl
pick_same false a = refl

-- ── from the value of a definition by tests to the tests ──
module _ {ℓ κ} {A : Type ℓ} {C : Type κ} (a b x : A) where
  pub cut : (t : Bool) → pick t a b ≡ x → (t ≡ true → a ≡ x → C) → (t ≡ false → b ≡ x → C) → C
  cut true e f g = f refl e
  cut false e f g = g refl e

  pub cut_lt : (m n : ℕ) → pick (ltb m n) a b ≡ x → (m < n → a ≡ x → C) → (n ≤ m → b ≡ x → C) → C
  cut_lt m n e f g = cut (ltb m n) e (λ h. f (ltb-true m n h)) (λ h. g (ltb-false m n h))

  pub cut_eq : (m n : ℕ) → pick (eqb m n) a b ≡ x → (m ≡ n → a ≡ x → C) → ((m ≡ n → ⊥) → b ≡ x → C) → C
  cut_eq m n e f g = cut (eqb m n) e (λ h. f (eqb-true m n h)) (λ h. g (eqb-false m n h))

-- ── cases on numbers ──
pub by_size : {C : Type 0} (n k : ℕ) → (n < k → C) → (k ≤ n → C) → C
by_size n k f g = elim (dec_lt n k) [ yes h ↦ f h | no h ↦ g (omega arith) ]

pub by_order : {C : Type 0} (m n : ℕ) → (m < n → C) → (m ≡ n → C) → (n < m → C) → C
by_order m n f g h = by_size m n f (λ l. by_size n m h (λ k. g (omega arith)))

-- ── two constructors are never equal: `clash (cc)` ──
pub clash : {A : Type 0} → ◌≡◌ {A = ℕ} 0 1 → A
clash z = absurd (omega arith)
