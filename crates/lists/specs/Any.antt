-- One of several has a property: from a test, and back.
use Rattle.std.specs.Prelude.{ℕ, zero, suc, ◌≤◌, ◌<◌, List, [], ◌∷◌, Bool, true, ◌||◌, ◌⊎◌, ◌≡◌, refl, get_or}
use Rattle.std.proofs.Common.{inl, inr, ap}
use Rattle.lists.specs.Choice.{clash}
use Rattle.lists.specs.Tests.{or_cases, or_right}
use Rattle.lists.specs.Lists.{any_by}
use Rattle.lists.specs.All.{All}

module _ {A : Type 0} (P : A → Type 0) where
  -- one of these has the property
  pub data Any : List A → Type 0 where
    here : {x : A} {xs : List A} → P x → Any (x ∷ xs)
    later : {x : A} {xs : List A} → Any xs → Any (x ∷ xs)

-- a number from lo on and below hi that has the property
pub record Ranged (lo hi : ℕ) (Q : ℕ → Type 0) : Type 0 where
  pub number : ℕ
  pub low : lo ≤ number
  pub high : number < hi
  pub has : Q number

module _ {lo hi : ℕ} (P Q : ℕ → Type 0) where
  pub ranged_as : ((n : ℕ) → P n → Q n) → Ranged lo hi P → Ranged lo hi Q
  ranged_as f r = record { number = r.number; low = r.low; high = r.high; has = f r.number r.has }

-- ── from a test, and back ──
module _ {A : Type 0} where
  pub any_some : (q : A → Bool) (P : A → Type 0) → ((x : A) → q x ≡ true → P x) → (xs : List A) → any_by q xs ≡ true → Any P xs
  any_some q P f [] h = clash (cc)
  any_some q P f (x ∷ xs) h =
      elim (or_cases (q x) (any_by q xs) h) [ inl e ↦ here (f x e) | inr e ↦ later (any_some q P f xs e) ]

  pub some_any : (q : A → Bool) (P : A → Type 0) → ((x : A) → P x → q x ≡ true) → {xs : List A} → Any P xs → any_by q xs ≡ true
  some_any q P f (here {x} {xs} p) = ap (λ (b : Bool). b || any_by q xs) (f x p)
  some_any q P f (later {x} {xs} s) = or_right (q x) (any_by q xs) (some_any q P f s)

  -- the same where the property is of some number
  pub any_ranged :
      {lo hi : ℕ} (q : A → Bool) (Q : ℕ → A → Type 0) → ((x : A) → q x ≡ true → Ranged lo hi (λ n. Q n x)) → (xs : List A)
      → any_by q xs ≡ true → Ranged lo hi (λ n. Any (Q n) xs)
  any_ranged q Q f [] h = clash (cc)
  any_ranged q Q f (x ∷ xs) h =
      elim (or_cases (q x) (any_by q xs) h) [
        | inl e ↦ ranged_as (λ n. Q n x) (λ n. Any (Q n) (x ∷ xs)) (λ n p. here p) (f x e)
        | inr e ↦ ranged_as (λ n. Any (Q n) xs) (λ n. Any (Q n) (x ∷ xs)) (λ n s. later s) (any_ranged q Q f xs e)
      ]

  -- one of several, with what holds of all
  pub some_with : {C : Type 0} (P R : A → Type 0) → ((x : A) → P x → R x → C) → {xs : List A} → Any P xs → All R xs → C
  some_with P R f (here {x} p) a = f x p a.0
  some_with P R f (later s) a = some_with P R f s a.1

  pub some_split : (P Q : A → Type 0) {xs : List A} → Any (λ x. P x ⊎ Q x) xs → Any P xs ⊎ Any Q xs
  some_split P Q (here p) = elim p [ inl a ↦ inl (here a) | inr a ↦ inr (here a) ]
  some_split P Q (later s) = elim (some_split P Q s) [ inl a ↦ inl (later a) | inr a ↦ inr (later a) ]

  nothing : (P : A → Type 0) {xs : List A} → Any P xs → xs ≡ [] → ⊥
  nothing P (here p) h = clash (cc)
  nothing P (later s) h = clash (cc)

  -- in one list of several
  pub some_part : (P : A → Type 0) (xss : List (List A)) (w : ℕ) → Any P (get_or xss w []) → Any (Any P) xss
  some_part P [] w s = absurd (nothing P s refl)
  some_part P (xs ∷ xss) zero s = here s
  some_part P (xs ∷ xss) (suc w) s = later (some_part P xss w s)
