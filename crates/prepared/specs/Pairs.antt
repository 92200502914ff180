-- A place in two bytes, the high one first.
use Rattle.std.specs.Prelude.{ℕ, ◌+◌, ◌*◌, ◌/◌, ◌%◌, ◌≤◌, ◌<◌, List, ◌≡◌, length, get_or, take, set}
use Rattle.std.proofs.Common.{ap₂, ◌∙◌, arith, length-set, get_or-set_same, get_or-set_other}
use Rattle.std.proofs.lemmas.List.{take-set-le}
use Rattle.prepared.specs.Sections.{place_base}

-- what two bytes say; two bytes written
abbrev pub pair_at : List ℕ → ℕ → ℕ
pair_at p at = get_or p at 0 * place_base + get_or p (at + 1) 0

abbrev pub paired : List ℕ → ℕ → ℕ → List ℕ
paired p at v = set (set p at (v / place_base)) (at + 1) (v % place_base)

module _ (p : List ℕ) (at v : ℕ) where
  -- no other byte changes
  pub paired_other : (i : ℕ) → (i ≡ at → ⊥) → (i ≡ at + 1 → ⊥) → get_or (paired p at v) i 0 ≡ get_or p i 0
  paired_other i a b =
      get_or-set_other (set p at (v / place_base)) (at + 1) i (v % place_base) 0 (λ e. b (omega arith))
      ∙ get_or-set_other p at i (v / place_base) 0 (λ e. a (omega arith))

  pub paired_front : (n : ℕ) → n ≤ at → take n (paired p at v) ≡ take n p
  paired_front n h = take-set-le n (set p at (v / place_base)) (at + 1) (v % place_base) (omega arith) ∙ take-set-le n p at (v / place_base) h

  -- what was written is read
  pub pair_read : at + 1 < length p → pair_at (paired p at v) at ≡ v
  pair_read inside =
      let a : get_or (paired p at v) at 0 ≡ v / place_base =
      get_or-set_other (set p at (v / place_base)) (at + 1) at (v % place_base) 0 (λ e. omega arith)
      ∙ get_or-set_same p at (v / place_base) 0 (omega arith) in
      let b : get_or (paired p at v) (at + 1) 0 ≡ v % place_base =
      get_or-set_same (set p at (v / place_base)) (at + 1) (v % place_base) 0 (omega (arith, length-set p at (v / place_base))) in
      ap₂ (λ (x y : ℕ). x * place_base + y) a b ∙ omega arith
