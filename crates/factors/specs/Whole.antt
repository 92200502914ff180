-- Whole numbers in 32 bits, and in 64.
use Rattle.std.specs.Prelude.{ℕ, suc, ◌+◌, ◌-◌, ◌≤◌, ◌<◌, ◌≡◌, refl, Bool, true, false, cond, ltb, ℤ, pos, negsuc, ◌+ℤ◌, nat_abs}
use Rattle.std.proofs.Common.{arith, ltb-true, SFits, to_z, of_z}
use Rattle.std.proofs.Math.IntN.{sub_ℕ}
use Rattle.std.specs.Int.{w32, w64}
use Rattle.std.proofs.lemmas.Int.{to_z-of_z}

-- ── how far from zero ──
sub_abs : (a b : ℕ) → nat_abs (sub_ℕ a b) ≤ a + b
sub_abs a b = go (ltb a b) refl
  where
    go : (t : Bool) → ltb a b ≡ t → nat_abs (cond t (negsuc (b - suc a)) (pos (a - b))) ≤ a + b
    go true e = let h : a < b = ltb-true a b e in omega arith
    go false e = omega arith

pub add_abs : (k j : ℤ) → nat_abs (k +ℤ j) ≤ nat_abs k + nat_abs j
add_abs (pos a) (pos b) = omega arith
add_abs (pos a) (negsuc b) = omega (arith, sub_abs a (suc b))
add_abs (negsuc a) (pos b) = omega (arith, sub_abs b (suc a))
add_abs (negsuc a) (negsuc b) = omega arith

-- ── what an i32 holds is the whole number itself ──
pub small_fits : (z : ℤ) → nat_abs z < 2147483648 → SFits w32 z
small_fits (pos n) h = record { sfits = h }
small_fits (negsuc n) h = record { sfits = omega arith }

pub back : (z : ℤ) → nat_abs z < 2147483648 → to_z w32 (of_z w32 z) ≡ z
back z h = to_z-of_z w32 z (small_fits z h)

-- ── and what an i64 holds ──
pub small_fits_wider : (z : ℤ) → nat_abs z < 2147483648 → SFits w64 z
small_fits_wider (pos n) h = record { sfits = omega (arith, h) }
small_fits_wider (negsuc n) h = record { sfits = omega arith }

pub back_wider : (z : ℤ) → nat_abs z < 2147483648 → to_z w64 (of_z w64 z) ≡ z
back_wider z h = to_z-of_z w64 z (small_fits_wider z h)
