-- Reading group by group, lowest first: a number is what its groups so far make of the rest.
use Rattle.std.specs.Prelude.{ℕ, ◌+◌, ◌-◌, ◌*◌, ◌^◌, ◌≤◌, ◌<◌, List, ◌≡◌, refl, length, get_or}
use Rattle.std.proofs.Common.{ap, sym, ◌∙◌, arith, pow-suc, mul-add, mul_comm, mul_assoc, mul-le-mul_right}
use Rattle.std.proofs.Math.Nat.{pow-le-pow_right}
use Rattle.lists.specs.Choice.{by_size}
use Rattle.number.specs.Groups.{most_groups, base}
use Rattle.number.specs.Reading.{Read, got, fault, joined, longer, read_in, read_number}
use Rattle.number.specs.Reading.Numbers.{joined_zero, joined_some, number_more, now_none, now_end, now_one, now_more}

-- one group more counts by the weight so far
joined_longer : (low weight b : ℕ) (r : Read ℕ) → joined low weight (longer b r) ≡ joined (low + (b - 128) * weight) (weight * 128) r
joined_longer low weight b (got v e) =
    let n : ℕ = b - 128 + 128 * v in
    by_size v 1
    (λ l. ap (joined low weight) (joined_zero (b - 128) 128 v e (omega arith)) ∙ sym (joined_zero _ _ v e (omega arith)))
    (λ l. ap (joined low weight) (joined_some (b - 128) 128 v e (λ z. omega arith))
    ∙ joined_some low weight n e (λ z. omega arith)
    ∙ ap (λ (w : ℕ). got w e) (omega (arith, mul-add weight (b - 128) (128 * v), mul_comm weight (b - 128), mul_assoc weight 128 v))
    ∙ sym (joined_some (low + (b - 128) * weight) (weight * 128) v e (λ z. omega arith)))
joined_longer low weight b fault = refl

-- the groups before i have the value `low`, those behind count `weight` times, and `left` more are allowed
pub record Sofar (file : List ℕ) (at i low weight left : ℕ) : Type 0 where
  pub whole : read_number file at ≡ joined low weight (read_in left file i)
  pub power : weight ≡ base ^ (most_groups - left)
  pub few : left < most_groups
  pub small : low < weight

-- behind the first group
pub sofar_first :
    (file : List ℕ) (at : ℕ) → at < length file → 128 ≤ get_or file at 0 → get_or file at 0 < 256
    → Sofar file at (at + 1) (get_or file at 0 - 128) 128 (most_groups - 1)
sofar_first file at inside more byte = record {
  whole = number_more file at inside more;
  power = refl;
  few = omega arith;
  small = omega arith;
}

module _ {file : List ℕ} {at i low weight left : ℕ} (s : Sofar file at i low weight left) where
  pub sofar_none : left ≡ 0 → read_number file at ≡ fault
  sofar_none z = s.whole ∙ ap (joined low weight) (now_none left file i z)

  pub sofar_end : length file ≤ i → read_number file at ≡ fault
  sofar_end h = s.whole ∙ ap (joined low weight) (now_end file i left h)

  -- one group more stays below the next weight
  pub sofar_small : get_or file i 0 < 256 → low + (get_or file i 0 - 128) * weight < weight * 128
  sofar_small byte = omega (arith, s.small, mul-le-mul_right {m = get_or file i 0 - 128} {n = 127} weight (omega arith))

  module _ (some : 0 < left) where
    -- a group more has room
    pub sofar_room : weight ≤ base ^ (most_groups - 1)
    sofar_room = omega (arith, s.power, pow-le-pow_right {n = base} (omega arith) {i = most_groups - left} {j = most_groups - 1} (omega arith))

    module _ (inside : i < length file) where
      pub sofar_last : get_or file i 0 < 128 → read_number file at ≡ joined low weight (got (get_or file i 0) (i + 1))
      sofar_last h = s.whole ∙ ap (joined low weight) (now_one file i left (λ z. omega arith) inside h)

      pub sofar_more :
          128 ≤ get_or file i 0 → get_or file i 0 < 256
          → Sofar file at (i + 1) (low + (get_or file i 0 - 128) * weight) (weight * 128) (left - 1)
      sofar_more more byte = record {
        whole = s.whole ∙ ap (joined low weight) (now_more file i left (λ z. omega arith) inside more)
            ∙ joined_longer low weight (get_or file i 0) (read_in (left - 1) file (i + 1));
        power = ap (λ (w : ℕ). w * 128) s.power ∙ sym (pow-suc 128 (most_groups - left)) ∙ ap (λ (k : ℕ). 128 ^ k) (omega (arith, s.few));
        few = omega (arith, s.few);
        small = sofar_small byte;
      }
