-- Every term compared with the entry's argument: what the code finds is the definition's test.
use Rattle.std.specs.Prelude.{ℕ, zero, suc, ◌+◌, ◌≤◌, ◌<◌, List, [], ◌∷◌, map, Bool, true, false, ◌&&◌, ◌≡◌, refl, length, get_or, eqb}
use Rattle.std.proofs.lemmas.Bool.{false≢true}
use Rattle.std.proofs.Math.Bool.{and_assoc}
use Rattle.std.proofs.Common.{sym, ap, ap₂, ◌∙◌, arith, add-one}
use Rattle.lists.specs.Choice.{by_size}
use Rattle.lists.specs.Lists.{all_by, row}
use Rattle.lists.specs.Tests.{by_bool, and_false, and_both, and_split}
use Rattle.property.specs.Figures.{most_scope}
use Rattle.property.specs.Formula.{Sort, Term}
use Rattle.property.specs.Fit.{term_fits}
use Rattle.property.specs.Meaning.{term_under}
use Rattle.property.specs.Judge.{same_all}
use Rattle.property.specs.Judge.Numbers.{numbers}
use Rattle.judge.specs.Bindings.{bound, code, value, all_up}
use Rattle.judge.specs.Bindings.Slots.{term_value}

all_shift : (t : ℕ → Bool) (k : ℕ) → all_up t (suc k) ≡ (t 0 && all_up (λ j. t (suc j)) k)
all_shift t zero = go (t 0)
  where
    go : (z : Bool) → z ≡ (z && true)
    go true = refl
    go false = refl
all_shift t (suc k) = ap (λ (z : Bool). z && t (suc k)) (all_shift t k) ∙ and_assoc (t 0) (all_up (λ j. t (suc j)) k) (t (suc k))

pub all_same : (t u : ℕ → Bool) (k : ℕ) → ((j : ℕ) → j < k → t j ≡ u j) → all_up t k ≡ all_up u k
all_same t u zero h = refl
all_same t u (suc k) h = ap₂ ◌&&◌ (all_same t u k (λ j l. h j (omega arith))) (h k (omega arith))

-- the classes of terms, one by one, are the entry's
pub all_terms :
    (base : ℕ) (s : List Sort) (c : List ℕ) (ts : List Term) (m : ℕ → ℕ) → length s ≤ most_scope → all_by (term_fits s) ts ≡ true
    → all_up (λ j. eqb (value base c (get_or (map code ts) j 0)) (m j)) (length ts)
    ≡ same_all (numbers base) (map (term_under (numbers base) (bound s c)) ts) (row m (length ts))
all_terms base s c [] m l e = refl
all_terms base s c (t ∷ ts) m l e =
    let p = and_split (term_fits s t) (all_by (term_fits s) ts) e in
    all_shift (λ j. eqb (value base c (get_or (map code (t ∷ ts)) j 0)) (m j)) (length ts)
    ∙ ap₂ ◌&&◌ (ap (λ (v : ℕ). eqb v (m 0)) (term_value base s c t l p.0)) (all_terms base s c ts (λ j. m (suc j)) l p.1)

pub all_step : (t : ℕ → Bool) (j : ℕ) → all_up t j ≡ true → t j ≡ true → all_up t (j + 1) ≡ true
all_step t j h k = rw add-one (and_both (all_up t j) (t j) h k)

-- one of the first k tests fails
pub all_stops : (t : ℕ → Bool) (k j : ℕ) → j < k → t j ≡ false → all_up t k ≡ false
all_stops t zero j l h = absurd (omega arith)
all_stops t (suc k) j l h =
    by_size j k (λ b. ap (λ (z : Bool). z && t k) (all_stops t k j b h))
    (λ b. let z : j ≡ k = omega arith in ap (λ (y : Bool). all_up t k && y) (ap t (sym z) ∙ h) ∙ and_false (all_up t k))

-- a test that fails where another that it follows from fails
pub all_fails : (t u : ℕ → Bool) (k : ℕ) → ((j : ℕ) → j < k → t j ≡ false → u j ≡ false) → all_up t k ≡ false → all_up u k ≡ false
all_fails t u zero h e = absurd (false≢true (sym e))
all_fails t u (suc k) h e =
    by_bool (t k)
    (λ q. ap (λ (z : Bool). z && u k) (all_fails t u k (λ j l. h j (omega arith)) (first (all_up t k) q e)))
    (λ q. ap (λ (z : Bool). all_up u k && z) (h k (omega arith) q) ∙ and_false (all_up u k))
  where
    first : (a : Bool) {b : Bool} → b ≡ true → (a && b) ≡ false → a ≡ false
    first true q e = absurd (false≢true (sym e ∙ q))
    first false q e = refl
