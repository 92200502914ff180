-- The packed answers come apart again.
use Rattle.std.specs.Prelude.{ℕ, ◌+◌, ◌-◌, ◌*◌, ◌/◌, ◌%◌, ◌^◌, ◌<◌, ◌≡◌, Bool, ltb}
use Rattle.std.proofs.Common.{ap, ap₂, ◌∙◌, arith, lt-ltb, le-ltb}
use Rattle.lists.specs.Choice.{pick}
use Rattle.rewriting.specs.Table.{Ruling, passed, refused}
use Rattle.checker.specs.Answer.{packed}

abbrev pub unpacked : ℕ → Ruling ℕ
unpacked a = pick (ltb a (2 ^ 56)) (refused (a / 2 ^ 32) (a % 2 ^ 32)) (passed (a - 3 * 2 ^ 56))

-- what an answer's figures are below
abbrev pub InBounds : Ruling ℕ → Type 0
InBounds (passed n) = n < 2 ^ 32
InBounds (refused n k) = (n < 2 ^ 8) × (k < 2 ^ 32)

pub unpacked_packed : (r : Ruling ℕ) → InBounds r → unpacked (packed r) ≡ r
unpacked_packed (passed n) h =
    let l : 2 ^ 56 < 3 * 2 ^ 56 + n = omega arith in
    ap (λ (b : Bool). pick {A = Ruling ℕ} b (refused ((3 * 2 ^ 56 + n) / 2 ^ 32) ((3 * 2 ^ 56 + n) % 2 ^ 32)) (passed (3 * 2 ^ 56 + n - 3 * 2 ^ 56)))
    (le-ltb (3 * 2 ^ 56 + n) (2 ^ 56) (omega arith))
    ∙ ap {B = Ruling ℕ} passed (omega arith)
unpacked_packed (refused n k) h =
    let a : n < 2 ^ 8 = h.0 in
    let b : k < 2 ^ 32 = h.1 in
    ap (λ (b : Bool). pick {A = Ruling ℕ} b (refused ((n * 2 ^ 32 + k) / 2 ^ 32) ((n * 2 ^ 32 + k) % 2 ^ 32)) (passed (n * 2 ^ 32 + k - 3 * 2 ^ 56)))
    (lt-ltb (n * 2 ^ 32 + k) (2 ^ 56) (omega arith))
    ∙ ap₂ {C = Ruling ℕ} refused (omega arith) (omega arith)
