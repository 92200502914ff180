-- Bytes that stand somewhere in a list; lists filled up with 255; the flags of linear symbols.
use Rattle.std.specs.Prelude.{ℕ, zero, suc, ◌+◌, ◌≤◌, ◌<◌, List, [], ◌∷◌, ◌++◌, map, ◌≡◌, refl, length, get_or, take, drop, set, replicate}
use Rattle.std.proofs.lemmas.List.{map-append, length-map}
use Rattle.std.proofs.Common.{ap, ap₂, sym, ◌∙◌, arith, add-one, length-drop, take-append-drop, get_or-drop, get_or-take, ext_get_or, length-take-le, drop-drop, take-suc}
use Rattle.std.proofs.Math.ListN.{get_or-append}
use Rattle.octets.specs.Splice.{splice}
use Rattle.octets.specs.Splice.Laws.{part_splice, splice_more, take_past}
use Rattle.term.specs.Arity.{undeclared, padded}
use Rattle.prepared.specs.Prepared.{linear}
use Rattle.prepared.specs.Filling.{Lies}

-- ── what lies in a list ──
module _ (p : List ℕ) (at : ℕ) (q : List ℕ) where
  pub splice_lies : at + length q ≤ length p → Lies (splice p at q) at q
  splice_lies room j h =
      sym (get_or-drop at (splice p at q) j 0)
      ∙ ap (λ (l : List ℕ). get_or l j 0) (part_splice p at q room)
      ∙ get_or-append q (drop (at + length q) p) 0 j h

  pub lies_kept : (p' : List ℕ) → ((j : ℕ) → j < length q → get_or p' (at + j) 0 ≡ get_or p (at + j) 0) → Lies p at q → Lies p' at q
  lies_kept p' same l j h = same j h ∙ l j h

  -- it is the listOf from there on
  pub lies_part : at + length q ≤ length p → Lies p at q → take (length q) (drop at p) ≡ q
  lies_part room l =
      let n : length (take (length q) (drop at p)) ≡ length q = length-take-le (length q) (drop at p) (omega (arith, length-drop at p)) in
      ext_get_or 0 (take (length q) (drop at p)) q n
      (λ i h. get_or-take (length q) (drop at p) i 0 (omega arith) ∙ get_or-drop at p i 0 ∙ l i (omega arith))

  pub lies_there : at + length q ≤ length p → Lies p at q → drop at p ≡ q ++ drop (at + length q) p
  lies_there room l =
      sym (take-append-drop (length q) (drop at p))
      ∙ ap₂ ◌++◌ (lies_part room l) (drop-drop (length q) at p)

  -- as long as it is known to be
  pub lies_section : (n : ℕ) → length q ≡ n → at + n ≤ length p → Lies p at q → take n (drop at p) ≡ q
  lies_section n e room l = ap (λ (m : ℕ). take m (drop at p)) (sym e) ∙ lies_part (omega arith) l

-- ── 255 behind a list ──
all_empty : (n : ℕ) → replicate n undeclared ≡ padded n []
all_empty zero = refl
all_empty (suc n) = ap (λ (l : List ℕ). undeclared ∷ l) (all_empty n)

filled : (n : ℕ) (l : List ℕ) → length l ≤ n → l ++ drop (length l) (replicate n undeclared) ≡ padded n l
filled n [] h = all_empty n
filled zero (a ∷ l) h = absurd (omega arith)
filled (suc n) (a ∷ l) h = ap (λ (r : List ℕ). a ∷ r) (filled n l (omega arith))

pub splice_padded : (n : ℕ) (l : List ℕ) → length l ≤ n → splice (replicate n undeclared) 0 l ≡ padded n l
unfolding splice
splice_padded n l h =
    let z : 0 + length l ≡ length l = omega arith in
    ap (λ (k : ℕ). l ++ drop k (replicate n undeclared)) z ∙ filled n l h

-- ── linear symbols ──
-- one more
pub linear_more :
    (out₀ out flags : List ℕ) (i : ℕ) → i < length flags → length flags ≤ length out₀ → out ≡ splice out₀ 0 (map linear (take i flags))
    → (v : ℕ) → v ≡ linear (get_or flags i 0) → set out i v ≡ splice out₀ 0 (map linear (take (i + 1) flags))
linear_more out₀ out flags i h room so_far v is =
    let vs : List ℕ = map linear (take i flags) in
    let n : length vs ≡ i = length-map (take i flags) linear ∙ length-take-le i flags (omega arith) in
    let z : i ≡ 0 + length vs = omega arith in
    let t : take i flags ++ (get_or flags i 0 ∷ []) ≡ take (i + 1) flags = sym (take-suc flags i 0 h) ∙ ap (λ (j : ℕ). take j flags) (sym (add-one i)) in
    ap₂ (λ (l : List ℕ) (j : ℕ). set l j v) so_far z
    ∙ splice_more out₀ 0 vs v (omega arith)
    ∙ ap (λ (w : ℕ). splice out₀ 0 (vs ++ (w ∷ []))) is
    ∙ ap (splice out₀ 0) (sym (map-append linear (take i flags) (get_or flags i 0 ∷ [])) ∙ ap (map linear) t)

-- what was written from the start
pub spliced_front : (l vs : List ℕ) (n : ℕ) → n ≡ length vs → length vs ≤ length l → take n (splice l 0 vs) ≡ vs
spliced_front l vs n e room =
    let z : n ≡ 0 + length vs = omega arith in
    ap (λ (k : ℕ). take k (splice l 0 vs)) z ∙ take_past l 0 vs (omega arith)

pub linears_front :
    (l out flags : List ℕ) → out ≡ splice l 0 (map linear flags) → length flags ≤ length l → take (length flags) out ≡ map linear flags
linears_front l out flags h room =
    let n : length (map linear flags) ≡ length flags = length-map flags linear in
    ap (take (length flags)) h ∙ spliced_front l (map linear flags) (length flags) (sym n) (omega arith)
