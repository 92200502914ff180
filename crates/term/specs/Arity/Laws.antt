-- The laws of arities: what each tag's slot is; tags are few, and so are arguments.
use Rattle.std.specs.Prelude.{ℕ, zero, suc, ◌+◌, ◌≤◌, ◌<◌, List, [], ◌∷◌, ◌++◌, ◌≡◌, refl, length, get_or, ltb}
use Rattle.std.specs.Prelude.{Some, None}
use Rattle.std.proofs.Common.{ap, sym, ◌∙◌, length-append, get_or-append-add}
use native.Mathlib.Omega.{arith}
use Rattle.std.proofs.Math.ListN.{get_or-append, get_or-eq_default}
use borrow.Author.Tests.{le-ltb, eq-eqb, ne_eqb}
use Rattle.lists.specs.Choice.{cut_lt, cut_eq, by_size, pick_same, clash}
use Rattle.lists.specs.All.{All}
use Rattle.lists.specs.All.Laws.{all_at, all_append}
use Rattle.term.specs.Tags.{most_functions, tag_count}
use Rattle.term.specs.Arity.{undeclared, arity, builtin, signing, padded, tag_arities}

-- a slot in the table, and past its end
pub slot_inside : (l : List ℕ) (f : ℕ) → f < length l → get_or l f 0 ≡ get_or l f undeclared
slot_inside [] f h = absurd (omega arith)
slot_inside (a ∷ l) zero h = refl
slot_inside (a ∷ l) (suc f) h = slot_inside l f (omega arith)

pub slot_outside : (l : List ℕ) (f : ℕ) → length l ≤ f → undeclared ≡ get_or l f undeclared
slot_outside l f h = sym (get_or-eq_default l undeclared h)

module _ (l : List ℕ) (f : ℕ) where
  pub arity_none : get_or l f undeclared ≡ undeclared → arity l f ≡ None
  unfolding arity
  arity_none h = simp (eq-eqb (get_or l f undeclared) undeclared h) (pick_same (ltb f 3) None)

  pub arity_some : 3 ≤ f → (get_or l f undeclared ≡ undeclared → ⊥) → arity l f ≡ Some (get_or l f undeclared)
  unfolding arity
  arity_some h k = simp (le-ltb f 3 h, ne_eqb (get_or l f undeclared) undeclared k)

  -- a function's tag is no leaf's
  pub no_leaf : (n : ℕ) → arity l f ≡ Some n → 3 ≤ f
  unfolding arity
  no_leaf n e = cut_lt _ _ _ f 3 e (λ h e. clash (cc)) (λ h e. h)

-- ── document 01's table ──

padded_at : (n : ℕ) (l : List ℕ) (j : ℕ) → j < n → get_or (padded n l) j undeclared ≡ get_or l j undeclared
padded_at zero l j h = absurd (omega arith)
padded_at (suc n) [] zero h = refl
padded_at (suc n) [] (suc j) h = padded_at n [] j (omega arith)
padded_at (suc n) (a ∷ l) zero h = refl
padded_at (suc n) (a ∷ l) (suc j) h = padded_at n l j (omega arith)

pub length_padded : (n : ℕ) (l : List ℕ) → length (padded n l) ≡ n
length_padded zero l = refl
length_padded (suc n) [] = ap suc (length_padded n [])
length_padded (suc n) (a ∷ l) = ap suc (length_padded n l)

-- "13+j free function j (j from 0)"
pub slot_free : (free : List ℕ) (j : ℕ) → j < 16 → get_or (tag_arities free) (13 + j) undeclared ≡ get_or free j undeclared
unfolding tag_arities
slot_free free j h =
    get_or-append-add builtin (padded 16 free ++ signing) j undeclared
    ∙ get_or-append (padded 16 free) signing undeclared j (omega (arith, length_padded 16 free)) ∙ padded_at 16 free j h

pub slot_builtin : (free : List ℕ) (f : ℕ) → f < 13 → get_or (tag_arities free) f undeclared ≡ get_or builtin f undeclared
unfolding tag_arities
slot_builtin free f h = get_or-append builtin (padded 16 free ++ signing) undeclared f h

-- 29 to 34
pub slot_signing : (free : List ℕ) (j : ℕ) → j < 6 → get_or (tag_arities free) (29 + j) undeclared ≡ get_or signing j undeclared
unfolding tag_arities
slot_signing free j h =
    let i : 29 + j ≡ 13 + (16 + j) = omega arith in
    ap (λ (k : ℕ). get_or (builtin ++ (padded 16 free ++ signing)) k undeclared) i
    ∙ get_or-append-add builtin (padded 16 free ++ signing) (16 + j) undeclared
    ∙ ap (λ (k : ℕ). get_or (padded 16 free ++ signing) (k + j) undeclared) (sym (length_padded 16 free))
    ∙ get_or-append-add (padded 16 free) signing j undeclared

-- "with arities 2, 2, 1, 2, 3, 0"
pub signing_arity : (free : List ℕ) (j : ℕ) → j < 6 → arity (tag_arities free) (29 + j) ≡ Some (get_or signing j undeclared)
signing_arity free j h =
    arity_some (tag_arities free) (29 + j) (omega arith) (λ z. signing_declared j h (sym (slot_signing free j h) ∙ z)) ∙ ap Some (slot_signing free j h)
  where
    signing_declared : (j : ℕ) → j < 6 → get_or signing j undeclared ≡ undeclared → ⊥
    signing_declared zero h e = omega arith
    signing_declared (suc zero) h e = omega arith
    signing_declared (suc (suc zero)) h e = omega arith
    signing_declared (suc (suc (suc zero))) h e = omega arith
    signing_declared (suc (suc (suc (suc zero)))) h e = omega arith
    signing_declared (suc (suc (suc (suc (suc zero))))) h e = omega arith
    signing_declared (suc (suc (suc (suc (suc (suc j)))))) h e = omega arith

-- ── the tags of functions, and the most arguments that one takes ──
pub tag_arities_length : (free : List ℕ) → length (tag_arities free) ≡ tag_count
unfolding tag_arities
tag_arities_length free =
    length-append builtin (padded most_functions free ++ signing)
    ∙ omega (arith, length-append (padded most_functions free) signing, length_padded most_functions free)

-- what a slot says where a function has an arity
pub arity_slot : (l : List ℕ) (f n : ℕ) → arity l f ≡ Some n → (get_or l f undeclared ≡ undeclared → ⊥) × (get_or l f undeclared ≡ n)
unfolding arity
arity_slot l f n e =
    cut_lt _ _ _ f 3 e (λ h e. clash (cc)) (λ h e. cut_eq _ _ _ (get_or l f undeclared) undeclared e (λ u e. clash (cc)) (λ u e. (u, (cc))))

pub tag_few : (free : List ℕ) (f n : ℕ) → arity (tag_arities free) f ≡ Some n → f < tag_count
tag_few free f n e =
    by_size f tag_count (λ h. h) (λ h.
    absurd ((arity_slot (tag_arities free) f n e).0 (sym (slot_outside (tag_arities free) f (omega (arith, tag_arities_length free))))))

module _ (most : ℕ) where
  -- no function, or a small arity
  abbrev Small : ℕ → Type 0
  Small a = (a ≡ undeclared → ⊥) → a ≤ most

  none_small : Small undeclared
  none_small u = absurd (u refl)

  padded_small : (n : ℕ) (l : List ℕ) → All (λ a. a ≤ most) l → All Small (padded n l)
  padded_small zero l h = tt
  padded_small (suc n) [] h = (none_small, padded_small n [] h)
  padded_small (suc n) (a ∷ l) h = ((λ u. h.0), padded_small n l h.1)

  -- three arguments at most, of verify, and as many as are declared
  pub arity_most : 3 ≤ most → (free : List ℕ) → All (λ a. a ≤ most) free → (f n : ℕ) → arity (tag_arities free) f ≡ Some n → n ≤ most
  unfolding tag_arities
  arity_most three free h f n e =
      let l = builtin ++ (padded 16 free ++ signing) in
      let (u, q) = arity_slot l f n e in
      let free-small = all_append Small (padded 16 free) signing (padded_small 16 free h) signing_small in
      let s = all_at Small undeclared none_small l (all_append Small builtin (padded 16 free ++ signing) builtin_small free-small) f u in
      omega (arith, q, s)
    where
      nullary : Small 0
      nullary u = omega arith

      unary : Small 1
      unary u = omega arith

      binary : Small 2
      binary u = omega arith

      ternary : Small 3
      ternary u = three

      builtin_small : All Small builtin
      builtin_small =
          (none_small, (none_small, (none_small, (nullary, (binary, (binary, (unary, (binary, (unary, (unary, (binary, (unary, (binary, tt)))))))))))))

      signing_small : All Small signing
      signing_small = (binary, (binary, (unary, (binary, (ternary, (nullary, tt))))))
