-- What `rises` and `next_row` ask and promise.
use Prim.Native.Nat.{ℕ, zero, suc, ◌+◌, ◌≤◌, ◌<◌}
use mathlib.Core.Path.{◌≡◌, refl, sym, ap, ◌∙◌}
use mathlib.Core.Bool.{Bool, true, false}
use mathlib.Core.List.{List}
use native.Mathlib.Decide.{dec_lt}
use native.Mathlib.Omega.{arith}
use lib.ListN.{length}
use lib.IntN.{ℤ, pos, negsuc, ◌-ℤ◌, neg_ℤ, nat_abs, +ℤ_idl}
use lib.Dec.{T}
use lib.Signed.{lt_z, non_neg}
use mir.Syntax.{w64}
use mir.Val.{Fits, SFits, to_z, of_z}
use borrow.Author.Tests.{ltb-true, ltb-false}
use Rattle.lists.specs.Choice.{clash}
use Rattle.factors.specs.Whole.{back_wider, small_fits_wider}
use Rattle.std.proofs.Common.{Some, None}
use Rattle.factors.specs.declared.Entry.{Entry}
use Rattle.factors.specs.Rows.{power_of}
use Rattle.product.specs.Side.{signed_limit, rise, NextIs, Small}

-- ── rises ──
neg_abs : (k : ℤ) → nat_abs (neg_ℤ k) ≡ nat_abs k
neg_abs (pos zero) = refl
neg_abs (pos (suc n)) = refl
neg_abs (negsuc n) = refl

down_yes : (k : ℤ) → lt_z k (pos 0) ≡ true → (n : ℕ) × (k ≡ negsuc n)
down_yes (pos n) h = let z = ltb-true n 0 h in absurd (omega arith)
down_yes (negsuc n) h = (n, refl)

up_yes : (k : ℤ) → lt_z (pos 0) k ≡ true → (n : ℕ) × (k ≡ pos (suc n))
up_yes (pos zero) h = clash (cc)
up_yes (pos (suc n)) h = (n, refl)
up_yes (negsuc n) h = clash (cc)

module _ (p : ℤ) (h : nat_abs p < signed_limit) where
  p_back : to_z w64 (of_z w64 p) ≡ p
  p_back = back_wider p (omega arith)

  turned : pos 0 -ℤ to_z w64 (of_z w64 p) ≡ neg_ℤ p
  turned = ap (λ z. pos 0 -ℤ z) p_back ∙ +ℤ_idl (neg_ℤ p)

  pub turn_fits : SFits w64 (pos 0 -ℤ to_z w64 (of_z w64 p))
  turn_fits = rw turned (small_fits_wider (neg_ℤ p) (omega (arith, neg_abs p)))

  turned_back : to_z w64 (of_z w64 (pos 0 -ℤ to_z w64 (of_z w64 p))) ≡ neg_ℤ p
  turned_back = rw turned (back_wider (neg_ℤ p) (omega (arith, neg_abs p)))

  module _ (g : lt_z (to_z w64 (of_z w64 p)) (pos 0) ≡ true) where
    below : (n : ℕ) × (p ≡ negsuc n)
    below = down_yes p (ap (λ z. lt_z z (pos 0)) (sym p_back) ∙ g)

    pub down_casts :
        T (non_neg (to_z w64 (of_z w64 (pos 0 -ℤ to_z w64 (of_z w64 p)))))
        × Fits w64 (nat_abs (to_z w64 (of_z w64 (pos 0 -ℤ to_z w64 (of_z w64 p)))))
    down_casts =
        let w = below in
        let l : nat_abs p ≡ suc w.0 = ap nat_abs w.1 in
        rw (turned_back, w.1) (tt, record { fits = omega arith })

    pub down_is : (m : Bool) → m ≡ true → nat_abs (to_z w64 (of_z w64 (pos 0 -ℤ to_z w64 (of_z w64 p)))) ≡ rise m p
    down_is m e = let w = below in rw (turned_back, w.1, e)

  pub down_not : lt_z (to_z w64 (of_z w64 p)) (pos 0) ≡ false → (m : Bool) → m ≡ true → 0 ≡ rise m p
  down_not g m e = rw e (go p (ap (λ z. lt_z z (pos 0)) (sym p_back) ∙ g))
    where
      go : (k : ℤ) → lt_z k (pos 0) ≡ false → 0 ≡ rise true k
      go (pos n) h = refl
      go (negsuc n) h = clash (cc)

  module _ (g : lt_z (pos 0) (to_z w64 (of_z w64 p)) ≡ true) where
    above : (n : ℕ) × (p ≡ pos (suc n))
    above = up_yes p (ap (lt_z (pos 0)) (sym p_back) ∙ g)

    pub up_casts : T (non_neg (to_z w64 (of_z w64 p))) × Fits w64 (nat_abs (to_z w64 (of_z w64 p)))
    up_casts =
        let w = above in
        let l : nat_abs p ≡ suc w.0 = ap nat_abs w.1 in
        rw (p_back, w.1) (tt, record { fits = omega arith })

    pub up_is : (m : Bool) → m ≡ false → nat_abs (to_z w64 (of_z w64 p)) ≡ rise m p
    up_is m e = let w = above in rw (p_back, w.1, e)

  pub up_not : lt_z (pos 0) (to_z w64 (of_z w64 p)) ≡ false → (m : Bool) → m ≡ false → 0 ≡ rise m p
  up_not g m e = rw e (go p (ap (lt_z (pos 0)) (sym p_back) ∙ g))
    where
      go : (k : ℤ) → lt_z (pos 0) k ≡ false → 0 ≡ rise false k
      go (pos n) h = let z = ltb-false 0 n h in omega arith
      go (negsuc n) h = refl

-- ── next_row ──
module _ (T : List Entry) (i : ℕ) (m : Bool) (small : Small T) where
  abbrev pub Zeros : ℕ → Type 0
  Zeros j = (k : ℕ) → i ≤ k → k < j → rise m (power_of T k) ≡ 0

  module _ (j : ℕ) (l : j < length T) where
    at_back : to_z w64 (of_z w64 (power_of T j)) ≡ power_of T j
    at_back = back_wider _ (omega (arith, small j l))

    pub rises_asks : nat_abs (to_z w64 (of_z w64 (power_of T j))) < signed_limit
    rises_asks = rw at_back (small j l)

    module _ (c : ℕ) (e : c ≡ rise m (to_z w64 (of_z w64 (power_of T j)))) where
      pub rises_is : c ≡ rise m (power_of T j)
      rises_is = e ∙ ap (rise m) at_back

      module _ (f : i ≤ j) (Z : Zeros j) where
        pub next_here : 0 < c → NextIs T i m (Some j)
        next_here h = (record { from = f; within = omega arith; none = Z; here = λ g. omega (arith, rises_is) }, l)

        pub next_more : c ≤ 0 → Zeros (j + 1)
        next_more h k g g₂ = elim (dec_lt k j) [ yes q ↦ Z k g q | no q ↦ (let z : k ≡ j = omega arith in rw z (omega (arith, rises_is))) ]

  pub next_end : i ≤ length T → Zeros (length T) → NextIs T i m None
  next_end f Z = record { from = f; within = omega arith; none = Z; here = λ h. absurd (omega arith) }
