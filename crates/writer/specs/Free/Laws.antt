-- The first free element that passes a test, the table with one element less, and with one more.
use Rattle.std.specs.Prelude.{ℕ, zero, suc, ◌≤◌, ◌<◌, List, [], ◌∷◌, ◌++◌, Bool, true, false, cond, ◌≡◌, refl, length, get_or, set}
use Rattle.std.proofs.Common.{append-nil, ap, ap₂, sym, ◌∙◌, arith, get_or-set_same, get_or-set_other}
use Rattle.std.specs.Prelude.{Some, None}
use Rattle.lists.specs.Choice.{by_order}
use Rattle.lists.specs.Lists.{first_by, remove_by}
use Rattle.lists.specs.Lists.Laws.{first_behind, first_before, remove_behind, remove_before}
use Rattle.writer.specs.Free.{held_at, free_to}

module _ {A : Type 0} (item : ℕ → A) where
  -- the same entries hold the same
  pub free_alike : (free free' : List ℕ) (n : ℕ) → ((v : ℕ) → v < n → get_or free' v 0 ≡ get_or free v 0) → free_to item free' n ≡ free_to item free n
  free_alike free free' zero h = refl
  free_alike free free' (suc v) h =
      ap₂ (λ (l m : List A). l ++ m) (free_alike free free' v (λ w l. h w (omega arith))) (ap (λ (m : ℕ). held_at m (item v)) (h v (omega arith)))

  -- no more entries hold anything
  pub free_empty : (free : List ℕ) (top n : ℕ) → top ≤ n → ((v : ℕ) → (v < top → ⊥) → get_or free v 0 ≡ 0) → free_to item free n ≡ free_to item free top
  free_empty free top zero l h = let e : top ≡ zero = omega arith in ap (free_to item free) (sym e)
  free_empty free top (suc v) l h =
      by_order top (suc v)
      (λ a. ap₂ (λ (l m : List A). l ++ m) (free_empty free top v (omega arith) h) (ap (λ (m : ℕ). held_at m (item v)) (h v (λ z. omega arith)))
      ∙ append-nil (free_to item free top))
      (λ e. ap (free_to item free) (sym e))
      (λ a. absurd (omega arith))

  -- one more
  pub free_more :
      (free : List ℕ) (v m : ℕ) → v < length free → free_to item (set free v (suc m)) (suc v) ≡ free_to item free v ++ (item v ∷ [])
  free_more free v m l =
      ap₂ (λ (l m : List A). l ++ m)
      (free_alike free (set free v (suc m)) v (λ w h. get_or-set_other free v w (suc m) 0 (λ z. omega arith)))
      (ap (λ (m : ℕ). held_at m (item v)) (get_or-set_same free v (suc m) 0 l))

  module _ (q : A → Bool) (free : List ℕ) where
    -- ── none so far ──
    abbrev pub NoneTo : ℕ → Type 0
    NoneTo v = first_by q (free_to item free v) ≡ None

    pub none_empty : (v : ℕ) → get_or free v 0 ≡ 0 → NoneTo v → NoneTo (suc v)
    none_empty v e h = ap (λ (m : ℕ). first_by q (free_to item free v ++ held_at m (item v))) e ∙ first_behind q (free_to item free v) [] h

    pub none_differs : (v : ℕ) → q (item v) ≡ false → NoneTo v → NoneTo (suc v)
    none_differs v f h = go (get_or free v 0)
      where
        go : (m : ℕ) → first_by q (free_to item free v ++ held_at m (item v)) ≡ None
        go zero = first_behind q (free_to item free v) [] h
        go (suc m) = first_behind q (free_to item free v) (item v ∷ []) h ∙ rw f

    -- ── the first of them ──
    pub record FirstAt (v n : ℕ) : Type 0 where
      pub inside : v < n
      pub mark : ℕ
      pub held : get_or free v 0 ≡ suc mark
      pub passes : q (item v) ≡ true
      pub before : NoneTo v

    module _ {v : ℕ} where
      first_here : {n : ℕ} → FirstAt v n → first_by q (free_to item free (suc v)) ≡ Some (item v)
      first_here h =
          ap (λ (m : ℕ). first_by q (free_to item free v ++ held_at m (item v))) h.held
          ∙ first_behind q (free_to item free v) (item v ∷ []) h.before ∙ ap (λ (b : Bool). cond b (Some (item v)) None) h.passes

      first_on : {n : ℕ} → FirstAt v n → (m : ℕ) → v < m → first_by q (free_to item free m) ≡ Some (item v)
      first_on h zero l = absurd (omega arith)
      first_on h (suc m) l =
          by_order v m
          (λ a. first_before q (free_to item free m) (held_at (get_or free m 0) (item m)) (item v) (first_on h m a))
          (λ e. ap (λ (k : ℕ). first_by q (free_to item free (suc k))) (sym e) ∙ first_here h)
          (λ a. absurd (omega arith))

      pub first_is : {n : ℕ} → FirstAt v n → first_by q (free_to item free n) ≡ Some (item v)
      first_is {n} h = first_on h n h.inside

      -- ── without it ──
      taken_below : (m : ℕ) → m ≤ v → free_to item (set free v 0) m ≡ free_to item free m
      taken_below m l = free_alike free (set free v 0) m (λ w h. get_or-set_other free v w 0 0 (λ z. omega arith))

      taken_here : {n : ℕ} → v < length free → FirstAt v n → free_to item (set free v 0) (suc v) ≡ remove_by q (free_to item free (suc v))
      taken_here l h =
          ap₂ (λ (x y : List A). x ++ y) (taken_below v (omega arith)) (ap (λ (m : ℕ). held_at m (item v)) (get_or-set_same free v 0 0 l))
          ∙ sym (ap (λ (m : ℕ). remove_by q (free_to item free v ++ held_at m (item v))) h.held
          ∙ remove_behind q (free_to item free v) (item v ∷ []) h.before
          ∙ ap (λ (b : Bool). free_to item free v ++ cond b [] (item v ∷ [])) h.passes)

      taken_on : {n : ℕ} → v < length free → FirstAt v n → (m : ℕ) → v < m → free_to item (set free v 0) m ≡ remove_by q (free_to item free m)
      taken_on l h zero a = absurd (omega arith)
      taken_on l h (suc m) a =
          by_order v m
          (λ b.
          ap₂ (λ (x y : List A). x ++ y) (taken_on l h m b)
          (ap (λ (k : ℕ). held_at k (item m)) (get_or-set_other free v m 0 0 (λ z. omega arith)))
          ∙ sym (remove_before q (free_to item free m) (held_at (get_or free m 0) (item m)) (item v) (first_on h m b)))
          (λ e. ap (λ (k : ℕ). free_to item (set free v 0) (suc k)) (sym e) ∙ taken_here l h ∙ ap (λ (k : ℕ). remove_by q (free_to item free (suc k))) e)
          (λ b. absurd (omega arith))

      pub taken_is : {n : ℕ} → v < length free → FirstAt v n → free_to item (set free v 0) n ≡ remove_by q (free_to item free n)
      taken_is {n} l h = taken_on l h n h.inside
