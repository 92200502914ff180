-- More laws of writing: what was copied, a byte and then more, a byte that stood there, what is written over, what stays.
use Rattle.std.specs.Prelude.{ℕ, ◌+◌, ◌-◌, ◌≤◌, ◌<◌, ◌≡◌, refl, List, [], ◌∷◌, ◌++◌, length, take, drop, get_or, set}
use Rattle.std.proofs.Common.{sym, ap, ◌∙◌, subst, subst₂, append_assoc, append-nil, add-one, arith, length-drop, drop_of_length-le, take-suc, take_at, take-add, take-take, drop_at, length-take-le}
use Rattle.std.proofs.Math.Seq.{take-append_seam}
use Rattle.octets.specs.Head.{Stands, stands_part}
use Rattle.octets.specs.Splice.{splice}
use Rattle.octets.specs.Splice.Prefix.{Wrote, widen, splice_wrote, wrote_one, wrote_then, wrote_there}

-- the fronts of two lists
pub take_same : (s s' : List ℕ) (m o : ℕ) → m ≤ o → take o s' ≡ take o s → take m s' ≡ take m s
take_same s s' m o l e = sym (take-take m o s' l) ∙ ap (take m) e ∙ take-take m o s l

-- the same bytes, written in another way
pub wrote_same : {w o r : ℕ} {out out' p q : List ℕ} → p ≡ q → Wrote w out o out' r p → Wrote w out o out' r q
wrote_same {w} {o} {r} {out} {out'} e f = subst (λ (l : List ℕ). Wrote w out o out' r l) e f

-- what was copied
pub copied :
    (w : ℕ) (out out' x : List ℕ) (at r : ℕ) → at + length x ≤ length out → at + length x ≤ w → r ≡ at + length x
    → out' ≡ splice out at x → Wrote w out at out' r x
copied w out out' x at r room h n e =
    subst₂ (λ (l : List ℕ) (j : ℕ). Wrote w out at l j x) (sym e) (sym n) (widen w h (splice_wrote out at x room))

-- a byte, and then more
pub tagged :
    (w : ℕ) (out out' : List ℕ) (o r x : ℕ) (q : List ℕ) → o < w → o < length out → Wrote w (set out o x) (o + 1) out' r q
    → Wrote w out o out' r (x ∷ q)
tagged w out out' o r x q l h f = wrote_then (wrote_one w o x out l h) f

-- the byte that stands there counts as written
pub stands_before :
    (w : ℕ) (out out' : List ℕ) (o r x : ℕ) (q : List ℕ) → get_or out o 0 ≡ x → o < length out → Wrote w out (o + 1) out' r q
    → Wrote w out o out' r (x ∷ q)
stands_before w out out' o r x q e h f = record {
  ends = omega (arith, f.ends);
  bytes =
      let t : take (o + 1) out ≡ take o out ++ (x ∷ []) = rw add-one (take-suc out o 0 h ∙ ap (λ (y : ℕ). take o out ++ (y ∷ [])) e) in
      f.bytes
      ∙ ap (λ (l : List ℕ). l ++ q) t
      ∙ append_assoc (take o out) (x ∷ []) q;
  kept = f.kept;
}

-- what stands there counts as written
pub as_written : (out : List ℕ) (o e : ℕ) (q : List ℕ) → Stands out o q e → Wrote e out o out e q
as_written out o e q h = record {
  ends = h.ends;
  bytes =
      ap (λ (k : ℕ). take k out) h.ends ∙ take-add o (length q) out
      ∙ ap (λ (z : List ℕ). take o out ++ z) (ap (take (length q)) h.there ∙ take-append_seam q (drop e out));
  kept = refl;
}

-- what stands below is as it was
pub below_kept :
    {w o r : ℕ} {out out' q : List ℕ} → o ≤ length out → Wrote w out o out' r q → take o out' ≡ take o out
below_kept {w} {o} {r} {out} {out'} {q} h f =
    sym (take-take o r out' (omega (arith, f.ends))) ∙ ap (take o) f.bytes ∙ take_at (take o out) q o (length-take-le o out h)

-- what was written from a place on is written over from that place or a lower one on
pub wrote_over :
    {w e o s r : ℕ} {out out₁ out₂ p q : List ℕ} → o ≤ s → s ≤ length out → Wrote w out s out₁ e p → Wrote w out₁ o out₂ r q
    → Wrote w out o out₂ r q
wrote_over {w} {o = o} {s = s} {out = out} {out₁ = out₁} {q = q} l h f g = record {
  ends = g.ends;
  bytes = g.bytes ∙ ap (λ (x : List ℕ). x ++ q) (take_same out out₁ o s l (below_kept h f));
  kept = g.kept ∙ f.kept;
}

-- ── a part ──
abbrev pub bytes_in : List ℕ → ℕ → ℕ → List ℕ
bytes_in s a e = take (e - a) (drop a s)

pub part_long : (s : List ℕ) (a e : ℕ) → e ≤ length s → length (bytes_in s a e) ≡ e - a
part_long s a e h = length-take-le (e - a) (drop a s) (rw length-drop (omega arith))

front_part : (s : List ℕ) (a e : ℕ) → a ≤ e → e ≤ length s → drop a (take e s) ≡ bytes_in s a e
front_part s a e l h =
    let q : e ≡ a + (e - a) = omega arith in
    ap (λ (k : ℕ). drop a (take k s)) q ∙ ap (drop a) (take-add a (e - a) s) ∙ drop_at (take a s) (bytes_in s a e) a (length-take-le a s (omega arith))

-- of two lists with the same front
pub part_same :
    (s s' : List ℕ) (m a e : ℕ) → take m s' ≡ take m s → a ≤ e → e ≤ m → e ≤ length s → e ≤ length s' → bytes_in s' a e ≡ bytes_in s a e
part_same s s' m a e q l g h k =
    sym (front_part s' a e l k) ∙ ap (drop a) (take_same s s' e m g q) ∙ front_part s a e l h

-- what was written
pub written_part : {w o r : ℕ} {out out' q : List ℕ} → o ≤ length out → Wrote w out o out' r q → bytes_in out' o r ≡ q
written_part h f = stands_part (record { ends = f.ends; there = wrote_there h f })

-- what stands up to e stands in the list up to there
pub stands_front : {s : List ℕ} {at e : ℕ} {bs : List ℕ} → e ≤ length s → Stands s at bs e → Stands (take e s) at bs e
stands_front {s} {at} {e} {bs} h f = record {
  ends = f.ends;
  there =
      front_part s at e (omega (arith, f.ends)) h ∙ stands_part f ∙ sym (append-nil bs)
      ∙ ap (λ (z : List ℕ). bs ++ z) (sym (drop_of_length-le (take e s) {i = e} (omega (arith, length-take-le e s h))));
}
