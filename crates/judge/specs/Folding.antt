-- One fold for both quantifiers, as a loop over the entries makes it; it is the definition's.
use Rattle.std.specs.Prelude.{◌≡◌, refl, Bool, true, false, not, ◌&&◌, ◌||◌, List, [], ◌∷◌}
use Rattle.std.proofs.Common.{ap}
use Rattle.lists.specs.Lists.{any_by, all_by}

-- x and y, or x or y
abbrev pub join : Bool → Bool → Bool → Bool
join true x y = x && y
join false x y = x || y

pub join_assoc : (q x y z : Bool) → join q x (join q y z) ≡ join q (join q x y) z
join_assoc true true y z = refl
join_assoc true false y z = refl
join_assoc false true y z = refl
join_assoc false false y z = refl

pub join_unit : (q x : Bool) → join q x q ≡ x
join_unit true true = refl
join_unit true false = refl
join_unit false true = refl
join_unit false false = refl

pub join_begin : (q x : Bool) → join q q x ≡ x
join_begin true x = refl
join_begin false x = refl

module _ {A : Type 0} (m : A → Bool) where
  -- every (true), or some (false), of the elements that match passes p
  abbrev pub over : Bool → (A → Bool) → List A → Bool
  over q p [] = q
  over q p (e ∷ es) = elim (m e) [ true ↦ join q (p e) (over q p es) | false ↦ over q p es ]

  pub over_any : (p : A → Bool) (es : List A) → over false p es ≡ any_by (λ e. m e && p e) es
  over_any p [] = refl
  over_any p (e ∷ es) = go (over_any p es) (m e)
    where
      go :
          over false p es ≡ any_by (λ e. m e && p e) es → (c : Bool)
          → elim c [ true ↦ p e || over false p es | false ↦ over false p es ] ≡ ((c && p e) || any_by (λ e. m e && p e) es)
      go r true = ap (p e ||◌) r
      go r false = r

  pub over_all : (p : A → Bool) (es : List A) → over true p es ≡ all_by (λ e. not (m e) || p e) es
  over_all p [] = refl
  over_all p (e ∷ es) = go (over_all p es) (m e)
    where
      go :
          over true p es ≡ all_by (λ e. not (m e) || p e) es → (c : Bool)
          → elim c [ true ↦ p e && over true p es | false ↦ over true p es ] ≡ ((not c || p e) && all_by (λ e. not (m e) || p e) es)
      go r true = ap (p e &&◌) r
      go r false = r

  pub over_miss : (q : Bool) (p : A → Bool) (e : A) (es : List A) → m e ≡ false → over q p (e ∷ es) ≡ over q p es
  over_miss q p e es h = ap (λ (c : Bool). elim c [ true ↦ join q (p e) (over q p es) | false ↦ over q p es ]) h

  pub over_hit : (q : Bool) (p : A → Bool) (e : A) (es : List A) → m e ≡ true → over q p (e ∷ es) ≡ join q (p e) (over q p es)
  over_hit q p e es h = ap (λ (c : Bool). elim c [ true ↦ join q (p e) (over q p es) | false ↦ over q p es ]) h
