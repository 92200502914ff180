-- The laws of a splice: length, parts, nothing, adjacent splices, one element more.
use Prim.Native.Nat.{ℕ, suc, ◌+◌, ◌-◌, ◌≤◌, ◌<◌}
use mathlib.Core.List.{List, [], ◌∷◌, ◌++◌, append_assoc, append-nil}
use Rattle.std.specs.Prelude.{◌≡◌, take, set, get_or}
use Rattle.std.proofs.Math.Path.{refl, ap₂, sym}
use Rattle.std.proofs.Common.{ap, ◌∙◌, add-one, add-zero, add_assoc, length-drop, take-append-drop, length-take-le, drop-drop, take-suc, drop-cons, get_or-drop, get_or-take}
use native.Mathlib.Omega.{arith}
use Rattle.std.proofs.Math.ListN.{length, drop, length-append}
use Rattle.std.proofs.Math.Seq.{paste, take_at, drop_at, take-take, sets-eq}
use Rattle.std.proofs.lemmas.List.{take-append-le}
use Rattle.std.proofs.lemmas.List.Edits.{sets}
use Rattle.octets.specs.Splice.{splice}

module _ {A : Type 0} where
  -- stores one behind the other
  pub sets_splice : (l : List A) (at : ℕ) (vs : List A) → at + length vs ≤ length l → sets l at vs ≡ splice l at vs
  unfolding splice
  sets_splice l at vs h = sets-eq vs l at h

  pub splice_nil : (l : List A) (at : ℕ) → splice l at [] ≡ l
  unfolding splice
  splice_nil l at = simp (add-zero, append-nil) (take-append-drop at l)

  -- the library's word for it
  pub paste_splice : (l : List A) (at : ℕ) (s : List A) (n : ℕ) → n ≤ length s → paste l at s n ≡ splice l at (take n s)
  unfolding splice
  paste_splice l at s n h = rw (length-take-le n s h) refl

  outer :
      (at : ℕ) (vs ws m : List A)
      → splice m (at + length vs) ws ≡ (take (at + length vs) m ++ ws) ++ drop (at + length vs + length ws) m
  unfolding splice
  outer at vs ws m = refl

  -- ── where there is room ──
  module _ (l : List A) (at : ℕ) (vs : List A) (room : at + length vs ≤ length l) where
    front : length (take at l) ≡ at
    front = length-take-le at l (omega arith)

    before : length (take at l ++ vs) ≡ at + length vs
    before = simp (length-append, front)

    pub length_splice : length (splice l at vs) ≡ length l
    unfolding splice
    length_splice = simp (length-append, front, length-drop) (omega arith)

    pub take_splice : (k : ℕ) → k ≤ at → take k (splice l at vs) ≡ take k l
    unfolding splice
    take_splice k h =
        simp append_assoc
        (take-append-le k (take at l) (vs ++ drop (at + length vs) l) (omega (arith, front)) ∙ take-take k at l h)

    pub drop_splice : drop (at + length vs) (splice l at vs) ≡ drop (at + length vs) l
    unfolding splice
    drop_splice = drop_at (take at l ++ vs) (drop (at + length vs) l) (at + length vs) before

    pub part_splice : drop at (splice l at vs) ≡ vs ++ drop (at + length vs) l
    unfolding splice
    part_splice = simp append_assoc (drop_at (take at l) (vs ++ drop (at + length vs) l) at front)

    pub take_past : take (at + length vs) (splice l at vs) ≡ take at l ++ vs
    unfolding splice
    take_past = take_at (take at l ++ vs) (drop (at + length vs) l) (at + length vs) before

    pub drop_past : (k : ℕ) → drop (at + length vs + k) (splice l at vs) ≡ drop (at + length vs + k) l
    drop_past k =
        sym (drop-drop k (at + length vs) (splice l at vs)) ∙ ap (drop k) drop_splice ∙ drop-drop k (at + length vs) l

    -- two that meet are one
    pub splice_splice : (ws : List A) → splice (splice l at vs) (at + length vs) ws ≡ splice l at (vs ++ ws)
    splice_splice ws =
        outer at vs ws (splice l at vs)
        ∙ simp (take_past, drop_past) (unfold splice in simp (append_assoc, length-append, add_assoc))

    -- what stands before and behind is as it was
    pub splice_before : (d : A) (i : ℕ) → i < at → get_or (splice l at vs) i d ≡ get_or l i d
    splice_before d i h =
        sym (get_or-take at (splice l at vs) i d h)
        ∙ ap (λ (m : List A). get_or m i d) (take_splice at (omega arith))
        ∙ get_or-take at l i d h

    pub splice_behind : (d : A) (i : ℕ) → at + length vs ≤ i → get_or (splice l at vs) i d ≡ get_or l i d
    splice_behind d i h =
        let n : ℕ = at + length vs in
        let e : i ≡ n + (i - n) = omega arith in
        ap (λ (j : ℕ). get_or (splice l at vs) j d) e
        ∙ sym (get_or-drop n (splice l at vs) (i - n) d)
        ∙ ap (λ (m : List A). get_or m (i - n) d) drop_splice
        ∙ get_or-drop n l (i - n) d
        ∙ ap (λ (j : ℕ). get_or l j d) (sym e)

  -- ── one element more ──
  -- behind
  pub splice_more :
      (l : List A) (at : ℕ) (vs : List A) (v : A) → at + length vs < length l
      → set (splice l at vs) (at + length vs) v ≡ splice l at (vs ++ (v ∷ []))
  splice_more l at vs v h =
      sets_splice (splice l at vs) (at + length vs) (v ∷ []) (rw (length_splice l at vs (omega arith)) (omega arith))
      ∙ splice_splice l at vs (omega arith) (v ∷ [])

  -- in front, and then the others
  pub splice_cons :
      (l : List A) (at : ℕ) (v : A) (vs : List A) → at < length l → splice (set l at v) (at + 1) vs ≡ splice l at (v ∷ vs)
  splice_cons l at v vs h =
      ap (λ (m : List A). splice m (at + 1) vs) (sets_splice l at (v ∷ []) (omega arith))
      ∙ splice_splice l at (v ∷ []) (omega arith) vs

  -- the others, and then in front
  pub splice_front :
      (l : List A) (at : ℕ) (v : A) (vs : List A) → at + 1 + length vs ≤ length l
      → set (splice l (at + 1) vs) at v ≡ splice l at (v ∷ vs)
  unfolding splice
  splice_front l at v vs h =
      let m : List A = splice l (at + 1) vs in
      let n : length m ≡ length l = length_splice l (at + 1) vs h in
      let i : at + 1 + length vs ≡ at + suc (length vs) = omega arith in
      sets_splice m at (v ∷ []) (omega arith)
      ∙ ap₂ (λ (x y : List A). (x ++ (v ∷ [])) ++ y) (take_splice l (at + 1) vs h at (omega arith)) (part_splice l (at + 1) vs h)
      ∙ sym (append_assoc (take at l ++ (v ∷ [])) vs (drop (at + 1 + length vs) l))
      ∙ ap₂ ◌++◌ (append_assoc (take at l) (v ∷ []) vs) (ap (λ (k : ℕ). drop k l) i)

  -- one more of a list that is copied, first to last
  pub splice_copy :
      (d : A) (l : List A) (at : ℕ) (src : List A) (i : ℕ) → at + i < length l → i < length src
      → set (splice l at (take i src)) (at + i) (get_or src i d) ≡ splice l at (take (i + 1) src)
  splice_copy d l at src i h k =
      let n : length (take i src) ≡ i = length-take-le i src (omega arith) in
      ap (λ (j : ℕ). set (splice l at (take i src)) (at + j) (get_or src i d)) (sym n)
      ∙ splice_more l at (take i src) (get_or src i d) (omega arith)
      ∙ ap (splice l at) (sym (take-suc src i d k) ∙ ap (λ (j : ℕ). take j src) (sym (add-one i)))

  -- one more of a list that is copied, last to first
  pub splice_copy_back :
      (d : A) (l : List A) (at : ℕ) (src : List A) (i j : ℕ) → i ≡ j + 1 → at + length src ≤ length l → j < length src
      → set (splice l (at + i) (drop i src)) (at + j) (get_or src j d) ≡ splice l (at + j) (drop j src)
  splice_copy_back d l at src i j e h k =
      let p : at + i ≡ at + j + 1 = omega arith in
      let n : length (drop (j + 1) src) ≡ length src - (j + 1) = length-drop (j + 1) src in
      ap₂ (λ (a b : ℕ). set (splice l a (drop b src)) (at + j) (get_or src j d)) p e
      ∙ splice_front l (at + j) (get_or src j d) (drop (j + 1) src) (omega arith)
      ∙ ap (splice l (at + j)) (sym (rw (add-one, drop-cons src j d k)))
