-- "80 01 is 128 (M), 80 00 refused (M)"; document 02, Change 3: "FF FF FF 7F (hexadecimal) is read, and a fifth group is refused as layout". Wherever
-- they stand in a file, over the definition of reading.
use Rattle.std.specs.Prelude.{ℕ, ◌+◌, ◌≤◌, List, [], ◌∷◌, ◌++◌, ◌≡◌, refl, length, drop}
use Rattle.std.proofs.Common.{arith}
use Rattle.number.specs.Groups.{groups, groups_in, number_limit}
use Rattle.number.specs.Reading.{got, fault, read_number}
use Rattle.number.specs.Reading.Numbers as laws

-- these bytes are this number, or none
abbrev pub Number : List ℕ → ℕ → Type 0
Number bytes n = (file : List ℕ) (at : ℕ) (rest : List ℕ) → drop at file ≡ bytes ++ rest → read_number file at ≡ got n (at + length bytes)

abbrev pub NoNumber : List ℕ → Type 0
NoNumber bytes = (file : List ℕ) (at : ℕ) (rest : List ℕ) → drop at file ≡ bytes ++ rest → read_number file at ≡ fault

-- 80 01 is 128
pub two_groups : Number (0x80 ∷ 0x01 ∷ []) 128
unfolding groups groups_in number_limit
two_groups file at rest e = laws.read_back file at 128 rest (omega arith) e

pub groups_128 : groups 128 ≡ 0x80 ∷ 0x01 ∷ []
unfolding groups groups_in
groups_128 = refl

-- 80 00 is refused
pub not_shortest : NoNumber (0x80 ∷ 0x00 ∷ [])
not_shortest file at rest e = laws.number_zero file rest 0x80 [] at (omega arith, tt) e

-- FF FF FF 7F is read, and is the largest
pub largest : Number (0xFF ∷ 0xFF ∷ 0xFF ∷ 0x7F ∷ []) 268435455
unfolding groups groups_in number_limit
largest file at rest e = laws.read_back file at 268435455 rest (omega arith) e

pub largest_below : number_limit ≡ 268435455 + 1
unfolding number_limit
largest_below = refl

-- 80 80 80 00 is not
pub four_not_shortest : NoNumber (0x80 ∷ 0x80 ∷ 0x80 ∷ 0x00 ∷ [])
four_not_shortest file at rest e = laws.number_zero file rest 0x80 (0x80 ∷ 0x80 ∷ []) at (omega arith, (omega arith, (omega arith, tt))) e

-- nor are any four groups with another behind them
pub fifth_group : (a b c d : ℕ) → 128 ≤ a → 128 ≤ b → 128 ≤ c → 128 ≤ d → NoNumber (a ∷ b ∷ c ∷ d ∷ [])
fifth_group a b c d i j k l file at rest e = laws.number_long file rest (a ∷ b ∷ c ∷ d ∷ []) at refl (i, (j, (k, (l, tt)))) e
