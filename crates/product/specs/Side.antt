-- The factors on one side: of positive exponent, or (true) of negative. "exponent zero drops out": a factor of exponent zero is on neither.
use Rattle.std.specs.Prelude.{ℕ, suc, ◌-◌, ◌^◌, ◌≤◌, ◌<◌, ◌≡◌, Bool, true, false, List, length, ℤ, pos, negsuc, nat_abs, Option, Some, None}
use Rattle.term.specs.Term.{Terms, nil}
use Rattle.message.specs.Product.{Exps, empty, part, times}
use Rattle.factors.specs.declared.Entry.{Entry}
use Rattle.factors.specs.Rows.{power_of}
-- the two sides of a product
pub mod Laws

-- how often a factor of exponent k stands there
abbrev pub rise : Bool → ℤ → ℕ
rise false (pos n) = n
rise false (negsuc n) = 0
rise true (pos n) = 0
rise true (negsuc n) = suc n

unfoldable pub side : Bool → Exps → Terms
side m empty = nil
side m (part t k l) = times (rise m k) t (side m l)

-- ── in a table ──
-- r is the first entry from i on that stands on the side, or their number
pub record Next (T : List Entry) (i : ℕ) (m : Bool) (r : ℕ) : Type 0 where
  pub from : i ≤ r
  pub within : r ≤ length T
  pub none : (j : ℕ) → i ≤ j → j < r → rise m (power_of T j) ≡ 0
  pub here : r < length T → 0 < rise m (power_of T r)

-- the first entry from i on that stands on the side; or none does
abbrev pub NextIs : List Entry → ℕ → Bool → Option ℕ → Type 0
NextIs T i m (Some r) = Next T i m r × (r < length T)
NextIs T i m None = Next T i m (length T)

-- below it the code can turn a whole number's sign
abbrev pub signed_limit : ℕ
signed_limit = 2 ^ 31 - 1

abbrev pub Small : List Entry → Type 0
Small T = (j : ℕ) → j < length T → nat_abs (power_of T j) < signed_limit
