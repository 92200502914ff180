-- Writing the built-in rules: one piece behind the other.
use Rattle.std.specs.Prelude.{ℕ, suc, ◌+◌, ◌-◌, ◌*◌, ◌≤◌, ◌<◌, List, [], ◌∷◌, ◌++◌, ◌≡◌, refl, length, take, drop, set, replicate}
use Rattle.std.proofs.Common.{append_assoc, ap, sym, ◌∙◌, subst, subst₂, arith, add-one, suc-mul, mul-le-mul_right, length-append, length-take, length-set, length-take-le, take_at, drop_at, drop-drop}
use Rattle.std.proofs.lemmas.List.{length-replicate}
use borrow.Rule.Slice.PartMut.{put_mid, mid_of, mid_len, same_len_mid}
use Rattle.octets.specs.Splice.{splice}
use Rattle.octets.specs.Splice.Laws.{length_splice}
use Rattle.octets.specs.Splice.Prefix.{Wrote, widen, splice_wrote, wrote_nothing, wrote_one, wrote_then}
use Rattle.protocol.specs.Protocol.{encode_rule}
use Rattle.rules.specs.Numbered.{applies}
use Rattle.rules.specs.Numbered.Bytes.{variable_bytes, premise_bytes, variable_bytes_more, variable_bytes_length}
use Rattle.rules.specs.Numbered.Bytes.{applies_bytes, premise_length, applies_length}

-- q was written to out from o on, up to o', and out' is what that left: the rest is as it was
abbrev pub Put : List ℕ → ℕ → List ℕ → ℕ → List ℕ → Type 0
Put out o out' o' q = Wrote o' out o out' o' q

pub put_as : {out out' : List ℕ} {o o' : ℕ} (q r : List ℕ) → q ≡ r → Put out o out' o' q → Put out o out' o' r
put_as {out} {out'} {o} {o'} q r h p = subst (Put out o out' o') h p

-- ── one piece, and the next ──
pub put_byte : (out : List ℕ) (o v : ℕ) → o < length out → Put out o (set out o v) (o + 1) (v ∷ [])
put_byte out o v h = wrote_one (o + 1) o v out (omega arith) h

pub put_copied :
    (out out' : List ℕ) (o o' : ℕ) (q : List ℕ) → o + length q ≤ length out → o' ≡ o + length q → out' ≡ splice out o q
    → Put out o out' o' q
put_copied out out' o o' q room ends wrote =
    subst₂ (λ (l : List ℕ) (e : ℕ). Put out o l e q) (sym wrote) (sym ends) (splice_wrote out o q room)

-- into a lent part `&mut out[o..e]`, the whole of it
pub put_lent :
    (out : List ℕ) (o e : ℕ) (q : List ℕ) → o ≤ e → e ≤ length out → length q ≡ e - o → Put out o (put_mid o (e - o) out q) e q
put_lent out o e q h room len =
    let rest : List ℕ = drop (e - o) (drop o out) in
    let n : length (take o out ++ q) ≡ e = simp length-append (omega (arith, length-take-le o out (omega arith))) in
    let end : o + (e - o) ≡ e = omega arith in
    let joined : take o out ++ (q ++ rest) ≡ (take o out ++ q) ++ rest = sym (append_assoc (take o out) q rest) in
    record {
      ends = omega arith;
      bytes = ap (take e) joined ∙ take_at (take o out ++ q) rest e n;
      kept =
          ap (drop e) joined
          ∙ drop_at (take o out ++ q) rest e n
          ∙ drop-drop (e - o) o out
          ∙ ap (λ (i : ℕ). drop i out) end;
    }

pub put_then :
    {out out₁ out₂ q r : List ℕ} {o o₁ o₂ : ℕ} → Put out o out₁ o₁ q → Put out₁ o₁ out₂ o₂ r → Put out o out₂ o₂ (q ++ r)
put_then {o₂ = o₂} f g = wrote_then (widen o₂ (omega (arith, g.ends)) f) g

-- ── k variables, one by one ──
-- i of them are written, each behind the bytes of lead
abbrev pub VariablesPut : List ℕ → ℕ → List ℕ → ℕ → List ℕ → ℕ → ℕ → Type 0
VariablesPut out o lead k out₁ o₁ i = (length out₁ ≡ length out) × (i ≤ k) × Put out o out₁ o₁ (variable_bytes lead 0 i)

module _ (out : List ℕ) (o : ℕ) (lead : List ℕ) (k : ℕ) where
  pub variables_none : VariablesPut out o lead k out o 0
  variables_none = (refl, omega arith, wrote_nothing o o out)

  pub variables_all : (out₁ : List ℕ) (o₁ i : ℕ) → VariablesPut out o lead k out₁ o₁ i → k ≤ i → Put out o out₁ o₁ (variable_bytes lead 0 k)
  variables_all out₁ o₁ i so_far h =
      let all : i ≡ k = omega (arith, so_far.1) in
      put_as _ _ (ap (variable_bytes lead 0) all) so_far.2

  module _ (room : o + k * (length lead + 1) ≤ length out) (out₁ : List ℕ) (o₁ i : ℕ) (so_far : VariablesPut out o lead k out₁ o₁ i) (more : i < k) where
    -- there is room for the next
    pub variables_room : o₁ + length lead < length out₁
    variables_room =
        omega (
          arith,
          so_far.0,
          so_far.2.ends,
          variable_bytes_length lead 0 i,
          suc-mul i (length lead + 1),
          mul-le-mul_right {m = suc i} {n = k} (length lead + 1) more,
        )

    pub variables_more :
        (out₂ : List ℕ) (o₂ : ℕ) → o₂ ≡ o₁ + length lead → out₂ ≡ splice out₁ o₁ lead
        → VariablesPut out o lead k (set out₂ o₂ i) (o₂ + 1) (i + 1)
    variables_more out₂ o₂ ends wrote =
        let fits : o₁ + length lead ≤ length out₁ = omega (arith, variables_room) in
        let same : length out₂ ≡ length out₁ = ap length wrote ∙ length_splice out₁ o₁ lead fits in
        let below : o₂ < length out₂ = omega (arith, variables_room) in
        let one_more : variable_bytes lead 0 (i + 1) ≡ variable_bytes lead 0 i ++ (lead ++ (i ∷ [])) =
        ap (variable_bytes lead 0) (add-one i) ∙ variable_bytes_more lead i in (
          length-set out₂ o₂ i ∙ same ∙ so_far.0,
          omega arith,
          put_as _ _ (sym one_more) (put_then so_far.2 (put_then (put_copied out₁ out₂ o₁ o₂ lead fits ends wrote) (put_byte out₂ o₂ i below))),
        )

-- ── the sorts and the premises of an apply-rule ──
-- out with the count of k message variables, and then what was made of the lent part of k bytes behind it
abbrev pub with_sorts : List ℕ → ℕ → List ℕ → List ℕ
with_sorts out k zeros = put_mid 1 (1 + k - 1) (set out 0 k) zeros

module _ (out : List ℕ) (k : ℕ) (zeros : List ℕ) (room : 2 + k ≤ length out) (cleared : zeros ≡ replicate (length (mid_of 1 (1 + k - 1) (set out 0 k))) 0) where
  counted : length (set out 0 k) ≡ length out
  counted = length-set out 0 k

  lent : length (mid_of 1 (1 + k - 1) (set out 0 k)) ≡ k
  lent = mid_len 1 (1 + k) (set out 0 k) (omega (arith, counted)) ∙ omega arith

  zeros_are : zeros ≡ replicate k 0
  zeros_are = cleared ∙ ap (λ (n : ℕ). replicate n 0) lent

  pub sorts_length : length (with_sorts out k zeros) ≡ length out
  sorts_length = same_len_mid 1 (1 + k - 1) (set out 0 k) zeros (ap length zeros_are ∙ length-replicate k 0 ∙ sym lent) ∙ counted

  sorts_put : Put out 0 (with_sorts out k zeros) (1 + k) ((k ∷ []) ++ replicate k 0)
  sorts_put =
      put_then (put_byte out 0 k (omega arith))
      (put_as _ _ zeros_are
      (put_lent (set out 0 k) 1 (1 + k) zeros (omega arith) (omega (arith, counted)) (omega (arith, ap length zeros_are, length-replicate {A = ℕ} k 0))))

  pub premises_put :
      (out₁ : List ℕ) (e : ℕ) → Put (set (with_sorts out k zeros) (1 + k) k) (1 + k + 1) out₁ e (variable_bytes (3 ∷ 0 ∷ []) 0 k)
      → Put out 0 out₁ e (premise_bytes k)
  premises_put out₁ e p =
      put_then (put_then sorts_put (put_byte (with_sorts out k zeros) (1 + k) k (omega (arith, sorts_length)))) p

-- ── an apply-rule, once its sorts and premises are written ──
module _ (out : List ℕ) (t k : ℕ) (small-tag : t < 128) (small : k < 128) (room : length (encode_rule (applies t k)) ≤ length out) where
  pub apply_put :
      (out₁ out₂ out₃ : List ℕ) (o₁ o₂ e : ℕ) → length out₁ ≡ length out → Put out 0 out₁ o₁ (premise_bytes k) → o₂ ≡ o₁ + 3
      → out₂ ≡ splice out₁ o₁ (0 ∷ 1 ∷ 3 ∷ []) → Put (set out₂ o₂ t) (o₂ + 1) out₃ e (variable_bytes (0 ∷ []) 0 k)
      → Put out 0 out₃ e (encode_rule (applies t k))
  apply_put out₁ out₂ out₃ o₁ o₂ e same first ends wrote rest =
      let fits : o₁ + 3 < length out₁ = omega (arith, first.ends, premise_length k, applies_length t k small-tag small) in
      let head : Put out₁ o₁ out₂ o₂ (0 ∷ 1 ∷ 3 ∷ []) = put_copied out₁ out₂ o₁ o₂ (0 ∷ 1 ∷ 3 ∷ []) (omega arith) ends wrote in
      let kept : length out₂ ≡ length out₁ = ap length wrote ∙ length_splice out₁ o₁ (0 ∷ 1 ∷ 3 ∷ []) (omega arith) in
      put_as _ _ (sym (applies_bytes t k small-tag small))
      (put_then (put_then (put_then first head) (put_byte out₂ o₂ t (omega arith))) rest)

-- ── what was written from the start ──
-- the first `len` elements are these
pub record Holds (out : List ℕ) (len : ℕ) (q : List ℕ) : Type 0 where
  pub bytes : take len out ≡ q
  pub short : len ≤ length out

pub put_holds : {out out' : List ℕ} {e : ℕ} {q : List ℕ} → Put out 0 out' e q → Holds out' e q
put_holds {out} {out'} {e} {q} p =
    record {
      bytes = p.bytes;
      short = omega (arith, length-take e out', ap length p.bytes, p.ends);
    }
