-- A Boolean answer that says whether a statement holds, and how such answers combine. Nothing here speaks of formulas.
use Rattle.std.specs.Prelude.{◌≡◌, refl, Bool, true, false, not, ◌&&◌, ◌||◌, ◌⊎◌, ◌↔◌, List, [], ◌∷◌, ℕ, ◌<◌, T, eqb, ltb}
use Rattle.std.proofs.Common.{sym, subst, true≢false, inl, inr, ⊎_elim, eqb→eq, ltb→lt, lt→ltb}
use Rattle.std.proofs.lemmas.Bool.{false≢true}
use mathlib.Core.List.Memᴰ
use Rattle.std.proofs.Math.Dec.{eqb_refl}
use Rattle.lists.specs.Lists.{◌∈◌, any_by, all_by}
use Rattle.lists.specs.All.{All}

-- `true` says that P holds, `false` that it does not
pub data Reflects (P : Type 0) : Bool → Type 0 where
  right : P → Reflects P true
  wrong : ¬ P → Reflects P false

pub reflects_true : {P : Type 0} {b : Bool} → Reflects P b → b ≡ true → P
reflects_true (right p) e = p
reflects_true (wrong n) e = absurd (false≢true e)

pub reflects_false : {P : Type 0} {b : Bool} → Reflects P b → b ≡ false → ¬ P
reflects_false (right p) e = absurd (true≢false e)
reflects_false (wrong n) e = n

pub reflects_back : {P : Type 0} {b : Bool} → Reflects P b → P → b ≡ true
reflects_back (right p) q = refl
reflects_back (wrong n) q = absurd (n q)

-- a test that holds exactly where the statement does
pub reflects_exactly : {P : Type 0} (b : Bool) → (b ≡ true) ↔ P → Reflects P b
reflects_exactly true h = right (h.0 refl)
reflects_exactly false h = wrong (λ p. false≢true (h.1 p))

-- what one and the same answer decides holds together
pub transfer : {P Q : Type 0} {b : Bool} → Reflects P b → Reflects Q b → P → Q
transfer (right p) (right q) x = q
transfer (wrong p) (wrong q) x = absurd (p x)

-- what decides two statements of which each follows from the other is one answer
pub alike : {P Q : Type 0} {a b : Bool} → (P → Q) → (Q → P) → Reflects P a → Reflects Q b → a ≡ b
alike f g (right p) (right q) = refl
alike f g (right p) (wrong n) = absurd (n (f p))
alike f g (wrong n) (right q) = absurd (n (g q))
alike f g (wrong n) (wrong m) = refl

pub reflects_iff : {P Q : Type 0} {b : Bool} → (P → Q) → (Q → P) → Reflects P b → Reflects Q b
reflects_iff f g (right p) = right (f p)
reflects_iff f g (wrong n) = wrong (λ q. n (g q))

pub reflects_dec : {P : Type 0} {b : Bool} → Reflects P b → P ⊎ (¬ P)
reflects_dec (right p) = inl p
reflects_dec (wrong n) = inr n

pub reflects_not : {P : Type 0} {b : Bool} → Reflects P b → Reflects (¬ P) (not b)
reflects_not (right p) = wrong (λ n. n p)
reflects_not (wrong n) = right n

pub reflects_and : {P Q : Type 0} {a b : Bool} → Reflects P a → Reflects Q b → Reflects (P × Q) (a && b)
reflects_and (right p) (right q) = right (p, q)
reflects_and (right p) (wrong n) = wrong (λ x. n x.1)
reflects_and (wrong n) r = wrong (λ x. n x.0)

pub reflects_or : {P Q : Type 0} {a b : Bool} → Reflects P a → Reflects Q b → Reflects (P ⊎ Q) (a || b)
reflects_or (right p) r = right (inl p)
reflects_or (wrong n) (right q) = right (inr q)
reflects_or (wrong n) (wrong m) = wrong (⊎_elim n m)

reflects_T : {P : Type 0} (b : Bool) → (T b → P) → (P → T b) → Reflects P b
reflects_T true f g = right (f tt)
reflects_T false f g = wrong g

pub reflects_eq : (m n : ℕ) → Reflects (m ≡ n) (eqb m n)
reflects_eq m n = reflects_T (eqb m n) (eqb→eq m n) (λ e. subst (λ (x : ℕ). T (eqb m x)) e (eqb_refl m))

pub reflects_lt : (m n : ℕ) → Reflects (m < n) (ltb m n)
reflects_lt m n = reflects_T (ltb m n) (ltb→lt m n) (lt→ltb m n)

-- some element of a list, every element of a list
module _ {A : Type 0} {p : A → Bool} {P : A → Type 0} (r : (x : A) → Reflects (P x) (p x)) where
  pub reflects_any : (l : List A) → Reflects ((x : A) × (x ∈ l) × P x) (any_by p l)
  reflects_any [] = wrong (λ h. Memᴰ.not-nil h.1)
  reflects_any (y ∷ l) = reflects_iff there back (reflects_or (r y) (reflects_any l))
    where
      there : P y ⊎ ((x : A) × (x ∈ l) × P x) → (x : A) × (x ∈ (y ∷ l)) × P x
      there (inl h) = (y, Memᴰ.head refl, h)
      there (inr h) = (h.0, Memᴰ.tail h.1, h.2)

      back : (x : A) × (x ∈ (y ∷ l)) × P x → P y ⊎ ((x : A) × (x ∈ l) × P x)
      back h = ⊎_elim (λ e. inl (subst P e h.2)) (λ m. inr (h.0, m, h.2)) (Memᴰ.cases_cons h.1)

  pub reflects_all : (l : List A) → Reflects ((x : A) → x ∈ l → P x) (all_by p l)
  reflects_all [] = right (λ x h. absurd (Memᴰ.not-nil h))
  reflects_all (y ∷ l) = reflects_iff there back (reflects_and (r y) (reflects_all l))
    where
      there : P y × ((x : A) → x ∈ l → P x) → (x : A) → x ∈ (y ∷ l) → P x
      there h x m = ⊎_elim (λ e. subst P (sym e) h.0) (λ m'. h.1 x m') (Memᴰ.cases_cons m)

      back : ((x : A) → x ∈ (y ∷ l) → P x) → P y × ((x : A) → x ∈ l → P x)
      back h = (h y (Memᴰ.head refl), λ x m. h x (Memᴰ.tail m))

  pub reflects_every : (l : List A) → Reflects (All P l) (all_by p l)
  reflects_every [] = right tt
  reflects_every (y ∷ l) = reflects_and (r y) (reflects_every l)
