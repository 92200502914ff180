-- The prefix form of a write: what was written so far, and the rest as it was. It composes by rewriting alone.
use Rattle.std.specs.Prelude.{ℕ, ◌+◌, ◌-◌, ◌≤◌, ◌<◌, min, ◌≡◌, refl, length, take, set}
use mathlib.Core.List.{List, [], ◌∷◌, ◌++◌, append_assoc, append-nil}
use Rattle.std.proofs.Math.Path.{ap, ap₂, sym}
use Rattle.std.proofs.Common.{◌∙◌, arith, add-one, add-zero, length-append, length-drop, length-take, take-append-drop, drop_of_length-le, drop-drop, drop_at, drop-set-lt, take-suc-set, take_all, length-take-le}
use Rattle.std.proofs.Math.ListN.{drop}
use Rattle.std.proofs.Math.Seq.{drop-append-add, take-append-add}
use Rattle.std.proofs.lemmas.List.{take-append-le}
use borrow.Rule.Slice.PartMut.{put_mid}
use Rattle.octets.specs.Splice.{splice}
use Rattle.octets.specs.Splice.Laws.{take_past, drop_splice}

module _ {A : Type 0} where
  -- q was written to out from o on, up to o', and out' is what that left: from w on it is as it was, and between o' and w lies
  -- scratch, of which nothing is said
  pub record Wrote (w : ℕ) (out : List A) (o : ℕ) (out' : List A) (o' : ℕ) (q : List A) : Type 0 where
    pub ends : o' ≡ o + length q
    pub bytes : take o' out' ≡ take o out ++ q
    pub kept : drop w out' ≡ drop w out

  -- what is kept from w on is kept from further on
  kept_on : (out out' : List A) (w v : ℕ) → w ≤ v → drop w out' ≡ drop w out → drop v out' ≡ drop v out
  kept_on out out' w v h e =
      let q : w + (v - w) ≡ v = omega arith in
      rw (← q) (sym (drop-drop (v - w) w out') ∙ ap (drop (v - w)) e ∙ drop-drop (v - w) w out)

  pub widen :
      {w o o' : ℕ} {out out' q : List A} (v : ℕ) → w ≤ v → Wrote w out o out' o' q → Wrote v out o out' o' q
  widen {w} {out = out} {out' = out'} v h f =
      record { ends = f.ends; bytes = f.bytes; kept = kept_on out out' w v h f.kept }

  -- ── from and to a splice ──
  pub splice_wrote : (out : List A) (o : ℕ) (q : List A) → o + length q ≤ length out → Wrote (o + length q) out o (splice out o q) (o + length q) q
  splice_wrote out o q room = record { ends = refl; bytes = take_past out o q room; kept = drop_splice out o q room }

  pub wrote_splice : (out : List A) (o : ℕ) (out' : List A) (o' : ℕ) (q : List A) → Wrote o' out o out' o' q → out' ≡ splice out o q
  unfolding splice
  wrote_splice out o out' o' q w =
      sym (take-append-drop o' out')
      ∙ ap₂ ◌++◌ w.bytes (w.kept ∙ ap (λ (k : ℕ). drop k out) w.ends)

  -- ── nothing, one element, one after the other ──
  pub wrote_nothing : (w o : ℕ) (out : List A) → Wrote w out o out o []
  wrote_nothing w o out = record { ends = sym (add-zero o); bytes = sym (append-nil (take o out)); kept = refl }

  pub wrote_one : (w o : ℕ) (x : A) (out : List A) → o < w → o < length out → Wrote w out o (set out o x) (o + 1) (x ∷ [])
  wrote_one w o x out l h =
      record { ends = refl; bytes = rw add-one (take-suc-set out o x h); kept = drop-set-lt w out o x l }

  pub wrote_then :
      {w o o₁ o₂ : ℕ} {out out₁ out₂ q r : List A} → Wrote w out o out₁ o₁ q → Wrote w out₁ o₁ out₂ o₂ r
      → Wrote w out o out₂ o₂ (q ++ r)
  wrote_then {w} {o} {o₁} {o₂} {out} {out₁} {out₂} {q} {r} f g = record {
    ends = omega (arith, f.ends, g.ends, length-append q r);
    bytes = g.bytes ∙ ap (λ (l : List A). l ++ r) f.bytes ∙ append_assoc (take o out) q r;
    kept = g.kept ∙ f.kept;
  }

  -- ── what stands where it was written ──
  pub wrote_there :
      {w o o' : ℕ} {out out' q : List A} → o ≤ length out → Wrote w out o out' o' q → drop o out' ≡ q ++ drop o' out'
  wrote_there {w} {o} {o'} {out} {out'} {q} h f =
      ap (drop o)
      (sym (take-append-drop o' out') ∙ ap (λ (z : List A). z ++ drop o' out') f.bytes ∙ append_assoc (take o out) q (drop o' out'))
      ∙ drop_at (take o out) (q ++ drop o' out') o (length-take-le o out h)

  -- ── a lent part `&mut out[at..]` ──
  -- its length
  pub lent_length : (out : List A) (at : ℕ) → length (take (length out - at) (drop at out)) ≡ length out - at
  lent_length out at = length-take-le (length out - at) (drop at out) (rw length-drop (omega arith))

  -- what was written into the part, said of the whole
  pub wrote_lent :
      (out ys : List A) (w at r : ℕ) (q : List A) → at ≤ length out → Wrote w (take (length out - at) (drop at out)) 0 ys r q
      → Wrote (at + w) out at (put_mid at (length out - at) out ys) (at + r) q
  wrote_lent out ys w at r q h f =
      let e : length q ≡ r = omega (arith, f.ends) in
      let m : min r (length ys) ≡ r = sym (length-take r ys) ∙ ap length f.bytes ∙ e in
      let l : length (take at out) ≡ at = length-take-le at out h in
      let t : List A = drop (length out - at) (drop at out) in
      let none : t ≡ [] = drop_of_length-le (drop at out) {i = length out - at} (omega (arith, length-drop at out)) in
      record {
        ends = omega arith;
        bytes =
            ap (λ (k : ℕ). take (k + r) (take at out ++ (ys ++ t))) (sym l)
            ∙ take-append-add (take at out) (ys ++ t) r
            ∙ ap (λ (z : List A). take at out ++ z) (take-append-le r ys t (omega arith) ∙ f.bytes);
        kept =
            ap (λ (k : ℕ). drop (k + w) (take at out ++ (ys ++ t))) (sym l)
            ∙ drop-append-add (take at out) (ys ++ t) w
            ∙ ap (λ (z : List A). drop w (ys ++ z)) none
            ∙ ap (drop w) (append-nil ys)
            ∙ f.kept
            ∙ ap (drop w) (take_all (length out - at) (drop at out) (omega (arith, length-drop at out)))
            ∙ drop-drop w at out;
      }
