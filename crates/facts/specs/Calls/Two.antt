-- Two runs of bytes that were written one behind the other: each stands there, and the test of the two parts is theirs.
use Rattle.std.specs.Prelude.{ℕ, ◌-◌, ◌≤◌, List, Bool, ◌≡◌, length, take, drop}
use Rattle.std.proofs.Common.{ap, ap₂, sym, ◌∙◌, arith, take-take, take_all, length-take-le}
use Rattle.std.proofs.lemmas.List.{take-append-le}
use Rattle.octets.specs.Compare.{compare_bytes, is_equal}
use Rattle.octets.specs.Splice.Prefix.{wrote_there}
use Rattle.facts.specs.Writing.{fact_room, Put}
use Rattle.facts.specs.Calls.{Room}

-- there is room behind the first
pub next_room :
    (out out₁ : List ℕ) (m : ℕ) (p : List ℕ) → Room out fact_room → Put out 0 out₁ m p → length out₁ ≡ length out → Room out₁ m
next_room out out₁ m p room a same =
    record { enough = omega (arith, a.wrote.ends, a.few, room.enough); short = omega (arith, room.short) }

-- what stood before the second stays, and the second stands behind it
module _ (out₁ out₂ : List ℕ) (m n : ℕ) (q : List ℕ) (inside : m ≤ length out₁) (b : Put out₁ m out₂ n q) where
  pub first_part : take m out₂ ≡ take m out₁
  first_part =
      let l : length (take m out₁) ≡ m = length-take-le m out₁ inside in
      sym (take-take m n out₂ (omega (arith, b.wrote.ends))) ∙ ap (take m) b.wrote.bytes ∙ take-append-le m (take m out₁) q (omega arith)
      ∙ take_all m (take m out₁) (omega arith)

  pub second_part : take (n - m) (drop m out₂) ≡ q
  second_part =
      let l : length q ≡ n - m = omega (arith, b.wrote.ends) in
      ap (take (n - m)) (wrote_there inside b.wrote) ∙ take-append-le (n - m) q (drop n out₂) (omega arith) ∙ take_all (n - m) q (omega arith)

module _ (out out₁ out₂ : List ℕ) (m n : ℕ) (p q : List ℕ) (room : Room out fact_room) (a : Put out 0 out₁ m p) (b : Put out₁ m out₂ n q)
    (same : length out₁ ≡ length out) (kept : length out₂ ≡ length out₁) where
  pub parts_inside : (m ≤ n) × (n ≤ length out₂)
  parts_inside = (omega (arith, b.wrote.ends), omega (arith, a.wrote.ends, a.few, b.few, b.wrote.ends, room.enough))

  pub parts_test :
      (r : Bool) → r ≡ is_equal (compare_bytes (take m out₂) (take (n - m) (drop m out₂))) → r ≡ is_equal (compare_bytes p q)
  parts_test r h =
      let i : m ≤ length out₁ = omega (arith, a.wrote.ends, a.few, room.enough) in
      h ∙ ap₂ (λ (x y : List ℕ). is_equal (compare_bytes x y)) (first_part out₁ out₂ m n q i b ∙ a.wrote.bytes) (second_part out₁ out₂ m n q i b)
