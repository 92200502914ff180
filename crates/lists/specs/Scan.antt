-- The next element of a list that is a number, as code looks for it.
use Rattle.std.specs.Prelude.{ℕ, ◌+◌, ◌≤◌, ◌<◌, List, ◌≡◌, get_or}
use Rattle.std.proofs.Common.{ap, sym, ◌∙◌, arith}
use Rattle.lists.specs.Choice.{by_size}

-- r is the first place from `from` on that has x, or the count where there is none
pub record Next (xs : List ℕ) (x from count r : ℕ) : Type 0 where
  pub later : from ≤ r
  pub within : r ≤ count
  pub others : (i : ℕ) → from ≤ i → i < r → ¬ (get_or xs i 0 ≡ x)
  pub here : r < count → get_or xs r 0 ≡ x

-- a scan has passed others only
pub record Scanning (xs : List ℕ) (x from count e : ℕ) : Type 0 where
  pub later : from ≤ e
  pub within : e ≤ count
  pub others : (i : ℕ) → from ≤ i → i < e → ¬ (get_or xs i 0 ≡ x)

module _ {xs : List ℕ} {x from count : ℕ} where
  pub scanning_begins : from ≤ count → Scanning xs x from count from
  scanning_begins l = record { later = omega arith; within = l; others = λ i a b. absurd (omega arith) }

  pub scanning_next : {e : ℕ} → e < count → Scanning xs x from count e → ¬ (get_or xs e 0 ≡ x) → Scanning xs x from count (e + 1)
  scanning_next {e} l w d = record {
    later = omega (arith, w.later);
    within = omega arith;
    others = λ i a b. by_size i e (λ h. w.others i a h) (λ h. let z : i ≡ e = omega arith in λ q. d (ap (λ (j : ℕ). get_or xs j 0) (sym z) ∙ q));
  }

  pub scanning_found : {e : ℕ} → e < count → Scanning xs x from count e → get_or xs e 0 ≡ x → Next xs x from count e
  scanning_found l w q = record { later = w.later; within = w.within; others = w.others; here = λ _. q }

  pub scanning_ends : {e : ℕ} → ¬ (e < count) → Scanning xs x from count e → Next xs x from count e
  scanning_ends l w = record { later = w.later; within = w.within; others = w.others; here = λ h. absurd (l h) }
