-- The rules that are written out have slots in the order of their numbers: those below the protocol's own, then those behind them.
use Rattle.std.specs.Prelude.{ℕ, ◌+◌, ◌-◌, ◌≤◌, ◌<◌, ◌≡◌, ltb}
use Rattle.std.proofs.Common.{arith, lt-ltb, le-ltb}
use Rattle.lists.specs.Choice.{pick, by_size}
use Rattle.protocol.specs.Figures.{most_rules}
use Rattle.rules.specs.Numbered.{first_own_rule, first_signing, number_count}

unfoldable pub slot_of : ℕ → ℕ
slot_of n = pick (ltb n first_own_rule) n (first_own_rule + (n - first_signing))

abbrev pub written_count : ℕ
written_count = number_count - most_rules

module _ (n : ℕ) where
  pub slot_low : n < 31 → slot_of n ≡ n
  unfolding slot_of
  slot_low h = simp (lt-ltb n 31 h)

  pub slot_high : 31 ≤ n → slot_of n ≡ 31 + (n - 95)
  unfolding slot_of
  slot_high h = simp (le-ltb n 31 h)

-- they rise with the numbers
pub slot_rises : (m n : ℕ) → m ≤ n → slot_of m ≤ slot_of n
slot_rises m n h =
    by_size m 31
    (λ a. by_size n 31 (λ b. omega (arith, slot_low m a, slot_low n b)) (λ b. omega (arith, slot_low m a, slot_high n b)))
    (λ a. omega (arith, slot_high m a, slot_high n (omega arith)))

-- each of these numbers has its own
pub slot_own : (n : ℕ) → n < 31 → slot_of n < slot_of (n + 1)
slot_own n h =
    by_size (n + 1) 31 (λ b. omega (arith, slot_low n h, slot_low (n + 1) b)) (λ b. omega (arith, slot_low n h, slot_high (n + 1) b))

pub slot_own_signing : (n : ℕ) → 95 ≤ n → slot_of n < slot_of (n + 1)
slot_own_signing n h = omega (arith, slot_high n (omega arith), slot_high (n + 1) (omega arith))

-- and no other has
pub slot_has : (n : ℕ) → 31 ≤ n → slot_of n < slot_of (n + 1) → 95 ≤ n
slot_has n h s = omega (arith, slot_high n h, slot_high (n + 1) (omega arith))

pub slot_few : (n : ℕ) → n ≤ 101 → slot_of n ≤ 37
slot_few n h = by_size n 31 (λ a. omega (arith, slot_low n a)) (λ a. omega (arith, slot_high n a))
