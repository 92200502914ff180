-- What stands at a place of a list, by the list from there on: the bridge between places and lists.
use Rattle.std.specs.Prelude.{ℕ, zero, suc, ◌+◌, ◌-◌, ◌≤◌, ◌<◌, List, [], ◌∷◌, ◌++◌, ◌≡◌, refl, length, get_or, take, drop}
use Rattle.std.proofs.Common.{append_assoc, ap, sym, ◌∙◌, arith, add-one, length-append, length-drop, drop-cons, drop-drop, take_at}
use Rattle.std.proofs.Math.Seq.{drop-append_seam}
use Rattle.lists.specs.Choice.{clash}

pub record Head (s : List ℕ) (at a : ℕ) (r : List ℕ) : Type 0 where
  pub inside : at < length s
  pub here : get_or s at 0 ≡ a
  pub next : drop (at + 1) s ≡ r

pub head_at : (s : List ℕ) (at a : ℕ) (r : List ℕ) → drop at s ≡ a ∷ r → Head s at a r
head_at [] zero a r e = clash (cc)
head_at [] (suc at) a r e = clash (cc)
head_at (x ∷ s) zero a r e = record { inside = omega arith; here = cc; next = (cc) }
head_at (x ∷ s) (suc at) a r e =
    let h = head_at s at a r e in
    record { inside = omega arith; here = h.here; next = rw add-one (rw add-one at h.next) }

pub head_of : (s : List ℕ) (at : ℕ) → at < length s → drop at s ≡ get_or s at 0 ∷ drop (at + 1) s
head_of s at h = rw (add-one, drop-cons s at 0 h)

-- behind what stands first
pub behind : (s : List ℕ) (at : ℕ) (xs ys : List ℕ) → drop at s ≡ xs ++ ys → drop (at + length xs) s ≡ ys
behind s at xs ys e = sym (drop-drop (length xs) at s) ∙ ap (drop (length xs)) e ∙ drop-append_seam xs ys

-- these bytes stand in s from `at` up to e
pub record Stands (s : List ℕ) (at : ℕ) (bs : List ℕ) (e : ℕ) : Type 0 where
  pub ends : e ≡ at + length bs
  pub there : drop at s ≡ bs ++ drop e s

pub stands_at : (s : List ℕ) (at : ℕ) (bs rest : List ℕ) → drop at s ≡ bs ++ rest → Stands s at bs (at + length bs)
stands_at s at bs rest e = record { ends = refl; there = e ∙ ap (λ (r : List ℕ). bs ++ r) (sym (behind s at bs rest e)) }

-- what stands there, and is something, lies within the list
pub stands_within : {s : List ℕ} {at e : ℕ} {bs : List ℕ} → Stands s at bs e → 0 < length bs → e ≤ length s
stands_within {s} {at} {e} {bs} h some =
    let l = simp (length-append, length-drop) at (ap length h.there) in
    omega (arith, l, h.ends)

-- one thing behind another
pub stands_join :
    {s : List ℕ} {at e f : ℕ} {bs cs : List ℕ} → Stands s at bs e → Stands s e cs f → Stands s at (bs ++ cs) f
stands_join {s} {at} {e} {f} {bs} {cs} h k =
    record {
      ends = omega (arith, h.ends, k.ends, length-append bs cs);
      there = h.there ∙ ap (λ (r : List ℕ). bs ++ r) k.there ∙ sym (append_assoc bs cs (drop f s));
    }

-- the part of s from `at` up to e
pub stands_part : {s : List ℕ} {at e : ℕ} {bs : List ℕ} → Stands s at bs e → take (e - at) (drop at s) ≡ bs
stands_part {s} {at} {e} {bs} h =
    let n : length bs ≡ e - at = omega (arith, h.ends) in
    ap (take (e - at)) h.there ∙ take_at bs (drop e s) (e - at) n

-- every element is a byte
abbrev pub Bytes : List ℕ → Type 0
Bytes s = (i : ℕ) → get_or s i 0 < 256

pub bytes_none : Bytes []
bytes_none i = omega arith

pub bytes_more : (x : ℕ) (xs : List ℕ) → x < 256 → Bytes xs → Bytes (x ∷ xs)
bytes_more x xs h b zero = h
bytes_more x xs h b (suc i) = b i

pub bytes_join : (xs ys : List ℕ) → Bytes xs → Bytes ys → Bytes (xs ++ ys)
bytes_join [] ys b c i = c i
bytes_join (x ∷ xs) ys b c zero = b 0
bytes_join (x ∷ xs) ys b c (suc i) = bytes_join xs ys (λ j. b (suc j)) c i
