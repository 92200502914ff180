-- How many entries a product has, and how much its exponents come to: each at least one, so that entries of exponent zero count too.
use Rattle.std.specs.Prelude.{ℕ, suc, ◌+◌, max, nat_abs}
use Rattle.message.specs.Product.{Exps, empty, part}
-- never more than the terms have symbols
pub mod Laws

unfoldable pub size : Exps → ℕ
size empty = 0
size (part t k l) = suc (size l)

unfoldable pub mass : Exps → ℕ
mass empty = 0
mass (part t k l) = max 1 (nat_abs k) + mass l
