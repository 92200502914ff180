-- Two lists whose elements are related, place by place.
use Rattle.std.specs.Prelude.{◌≡◌, refl, Bool, ◌&&◌, ◌||◌, List, [], ◌∷◌, ◌++◌, map, suc, length}
use Rattle.std.proofs.Common.{sym, ap, ap₂, subst, ⊎_elim}
use mathlib.Core.List.Memᴰ
use Rattle.lists.specs.Lists.{◌∈◌, any_by, all_by}

pub data Pairs {A B : Type 0} (R : A → B → Type 0) : List A → List B → Type 0 where
  nothing : Pairs R [] []
  more : {a : A} {b : B} {l : List A} {m : List B} → R a b → Pairs R l m → Pairs R (a ∷ l) (b ∷ m)

module _ {A B : Type 0} {R : A → B → Type 0} where
  pub pairs_head : {a : A} {b : B} {l : List A} {m : List B} → Pairs R (a ∷ l) (b ∷ m) → R a b
  pairs_head (more r p) = r

  pub pairs_tail : {a : A} {b : B} {l : List A} {m : List B} → Pairs R (a ∷ l) (b ∷ m) → Pairs R l m
  pairs_tail (more r p) = p

  pub pairs_append : {l : List A} {m : List B} {k : List A} {n : List B} → Pairs R l m → Pairs R k n → Pairs R (l ++ k) (m ++ n)
  pairs_append nothing q = q
  pairs_append (more r p) q = more r (pairs_append p q)

  pub pairs_length : {l : List A} {m : List B} → Pairs R l m → length l ≡ length m
  pairs_length nothing = refl
  pairs_length (more r p) = ap suc (pairs_length p)

  -- an element on one side has a partner on the other
  pub pairs_partner : (x : A) {l : List A} {m : List B} → Pairs R l m → x ∈ l → (y : B) × (y ∈ m) × R x y
  pairs_partner x nothing i = absurd (Memᴰ.not-nil i)
  pairs_partner x (more {b = b} r p) i =
      ⊎_elim
      (λ e. (b, Memᴰ.head refl, subst (λ (z : A). R z b) (sym e) r))
      (λ j. let q = pairs_partner x p j in (q.0, Memᴰ.tail q.1, q.2))
      (Memᴰ.cases_cons i)

  -- tests that agree on what is related
  module _ (p : A → Bool) (q : B → Bool) (h : (a : A) (b : B) → R a b → p a ≡ q b) where
    pub pairs_any : {l : List A} {m : List B} → Pairs R l m → any_by p l ≡ any_by q m
    pairs_any nothing = refl
    pairs_any (more {a = a} {b = b} r s) = ap₂ ◌||◌ (h a b r) (pairs_any s)

    pub pairs_all : {l : List A} {m : List B} → Pairs R l m → all_by p l ≡ all_by q m
    pairs_all nothing = refl
    pairs_all (more {a = a} {b = b} r s) = ap₂ ◌&&◌ (h a b r) (pairs_all s)

  pub pairs_as : {S : A → B → Type 0} → ((a : A) (b : B) → R a b → S a b) → {l : List A} {m : List B} → Pairs R l m → Pairs S l m
  pairs_as t nothing = nothing
  pairs_as t (more {a = a} {b = b} r p) = more (t a b r) (pairs_as t p)

  pub pairs_turned : {S : B → A → Type 0} → ((a : A) (b : B) → R a b → S b a) → {l : List A} {m : List B} → Pairs R l m → Pairs S m l
  pairs_turned t nothing = nothing
  pairs_turned t (more {a = a} {b = b} r p) = more (t a b r) (pairs_turned t p)

  pub pairs_joined :
      {C : Type 0} {S : B → C → Type 0} {Q : A → C → Type 0} → ((a : A) (b : B) (c : C) → R a b → S b c → Q a c)
      → {l : List A} {m : List B} {n : List C} → Pairs R l m → Pairs S m n → Pairs Q l n
  pairs_joined t nothing nothing = nothing
  pairs_joined t (more {a = a} {b = b} r p) (more {b = c} s q) = more (t a b c r s) (pairs_joined t p q)

pub pairs_itself : {A : Type 0} {R : A → A → Type 0} → ((x : A) → R x x) → (l : List A) → Pairs R l l
pairs_itself t [] = nothing
pairs_itself t (x ∷ l) = more (t x) (pairs_itself t l)

-- what is made of related elements is related
module _ {A B C D : Type 0} {R : A → B → Type 0} {S : C → D → Type 0} (f : A → C) (g : B → D) (h : (a : A) (b : B) → R a b → S (f a) (g b)) where
  pub pairs_map : {l : List A} {m : List B} → Pairs R l m → Pairs S (map f l) (map g m)
  pairs_map nothing = nothing
  pairs_map (more {a = a} {b = b} r p) = more (h a b r) (pairs_map p)
