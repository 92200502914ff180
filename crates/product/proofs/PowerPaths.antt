-- What `behind` and `power_at` ask and promise.
use Prim.Native.Nat.{ℕ, zero, suc, ◌+◌, ◌-◌, ◌≤◌, ◌<◌}
use mathlib.Core.Path.{◌≡◌, refl, sym, ap, ◌∙◌}
use mathlib.Core.List.{List, ◌∷◌, ◌++◌}
use native.Mathlib.Omega.{arith}
use lib.ListN.{length, take, length-append}
use Rattle.term.specs.Sizes.{term_room}
use Rattle.lists.specs.Asks.{Asks, Asks₂, Promises, Promises₂}
use Rattle.octets.specs.Head.{Bytes, stands_part}
use Rattle.octets.specs.Splice.{splice}
use Rattle.octets.specs.Splice.Prefix.{Wrote, widen, wrote_then}
use Rattle.term.specs.Term.{Term, Terms, encode}
use Rattle.term.specs.Reader.{term}
use Rattle.term.specs.Walk.{bytes_of}
use Rattle.message.specs.Gather.{multiplied, powered}
use Rattle.factors.specs.Laid.Laws.{one_after, one_within, one_bytes}
use Rattle.product.specs.Writing.{wrote_same, copied, stands_before, below_kept, wrote_over, bytes_in, part_same, written_part}
use Rattle.product.specs.Chain.{written}
use Rattle.product.specs.Chain.Laws.{encode_two, written_none, written_some}
use Rattle.product.specs.Inner.{Prod, Power, Behind}

-- ── behind ──
module _ (arities src : List ℕ) (at : ℕ) (bytes : Bytes src) (key : List ℕ) (K : key ≡ bytes_of (term src arities at)) where
  pub behind_is : Promises₂ (Behind arities src at) (λ (e : ℕ) (t : Term). (at + length key) ≡ e)
  behind_is e t B = ap (λ (l : List ℕ). at + length l) (K ∙ one_bytes B.one bytes) ∙ sym B.one.there.ends

  pub behind_within : Asks₂ (Behind arities src at) → at + length key ≤ length src
  behind_within J = rw (behind_is J.0 J.1 J.2) (one_within J.2.one)

-- ── power_at ──
module _ (arities out : List ℕ) (o b z k e : ℕ) where
  module _ (t : Term) (ts : Terms) (P : Power arities out o b z k e t ts) where
    -- what is written is the power's bytes without the tag and the base
    long : (length (written ts) ≡ 0 → ⊥) → length (encode (powered t ts)) ≡ 1 + length (encode t) + length (written ts)
    long h =
        let S = written_some ts h in
        ap (λ (u : Term). length (encode u)) (S.power t)
        ∙ ap length (encode_two 10 (omega arith) t (multiplied ts))
        ∙ omega (arith, length-append (encode t) (encode (multiplied ts)), ap length S.bytes)

    fits : length (written ts) ≤ term_room
    fits = go (length (written ts)) refl
      where
        go : (n : ℕ) → length (written ts) ≡ n → n ≤ term_room
        go zero e = omega arith
        go (suc n) e = omega (arith, long (λ h. absurd (omega arith)), P.fits, P.small)

    prod : Prod arities out z k e ts
    prod = record {
      laid = P.factors;
      ends = P.ends;
      many = P.many;
      inside = omega (arith, P.room);
      short = omega (arith, P.room, P.short);
      few = P.few;
      fits = omega (arith, fits, P.room);
    }

    -- the base stands behind the tag and before the factors
    base_order : (o < b) × (b < z) × (z ≤ e) × (e ≤ length out)
    base_order = (P.before, one_after P.base, omega (arith, P.ends), omega (arith, P.room))

    base_long : z - b ≡ length (encode t)
    base_long = omega (arith, P.base.there.ends)

  pub power_asks : Asks₂ (Power arities out o b z k e) → Asks (Prod arities out z k e)
  power_asks J = (_, prod J.0 J.1 J.2)

  pub power_order : Asks₂ (Power arities out o b z k e) → (o < b) × (b < z) × (z ≤ e) × (e ≤ length out)
  power_order J = base_order J.0 J.1 J.2

  module _ (out₁ : List ℕ) (n : ℕ) (D : Promises (Prod arities out z k e) (λ (ts : Terms). Wrote n out e out₁ n (written ts)))
      (el : length out₁ ≡ length out) where
    wrote : (t : Term) (ts : Terms) → Power arities out o b z k e t ts → Wrote n out e out₁ n (written ts)
    wrote t ts P = D ts (prod t ts P)

    pub power_end : Asks₂ (Power arities out o b z k e) → (e ≤ n) × (n ≤ length out₁)
    power_end J = let w = wrote J.0 J.1 J.2 in (omega (arith, w.ends), omega (arith, w.ends, (prod J.0 J.1 J.2).fits))

    -- what lies between e and e + term_room is scratch
    over :
        (t : Term) (ts : Terms) (P : Power arities out o b z k e t ts) (at : ℕ) → at ≤ e → (out₂ : List ℕ) (r : ℕ) (q : List ℕ)
        → Wrote (e + term_room) out₁ at out₂ r q → Wrote (e + term_room) out at out₂ r q
    over t ts P at l out₂ r q g =
        wrote_over l (base_order t ts P).3 (widen (e + term_room) (omega (arith, (wrote t ts P).ends, fits t ts P)) (wrote t ts P)) g

    -- the base is moved to o, or behind the tag
    moved :
        (at : ℕ) → o ≤ at → at ≤ o + 1 → (t : Term) (ts : Terms) → Power arities out o b z k e t ts → (out₂ : List ℕ)
        → out₂ ≡ splice out₁ at (bytes_in out₁ b z) → Wrote (at + (z - b)) out₁ at out₂ (at + (z - b)) (encode t)
    moved at h g t ts P out₂ q =
        let j = base_long t ts P in
        let B = base_order t ts P in
        let s : bytes_in out₁ b z ≡ encode t =
        part_same out out₁ e b z (below_kept B.3 (wrote t ts P)) (omega (arith, B.1)) B.2 (omega (arith, B.2, B.3)) (omega (arith, B.2, B.3))
        ∙ stands_part P.base.there in
        copied (at + (z - b)) out₁ out₂ (encode t) at (at + (z - b)) (omega (arith, B.0, B.1, B.2, B.3)) (omega arith) (omega arith)
        (q ∙ ap (splice out₁ at) s)

    pub powered_none : n ≡ e → (out₂ : List ℕ) → out₂ ≡ splice out₁ o (bytes_in out₁ b z) → Promises₂ (Power arities out o b z k e)
        (λ (t : Term) (ts : Terms). Wrote (e + term_room) out o out₂ (o + (z - b)) (encode (powered t ts)))
    powered_none h out₂ q t ts P =
        let B = base_order t ts P in
        wrote_same (sym (ap encode ((written_none ts (omega (arith, (wrote t ts P).ends))).power t)))
        (over t ts P o (omega (arith, B.0, B.1, B.2)) out₂ _ _
        (widen (e + term_room) (omega (arith, B.0, B.1, B.2)) (moved o (omega arith) (omega arith) t ts P out₂ q)))

    module _ (h : n ≡ e → ⊥) (out₂ : List ℕ) (q : out₂ ≡ splice out₁ (o + 1) (bytes_in out₁ b z)) (el₂ : length out₂ ≡ length out₁) where
      pub powered_some :
          (out₃ : List ℕ) (r : ℕ) → r ≡ o + 1 + (z - b) + (n - e) → out₃ ≡ splice out₂ (o + 1 + (z - b)) (bytes_in out₂ e n)
          → Promises₂ (Power arities out o b z k e) (λ (t : Term) (ts : Terms). Wrote (e + term_room) out o out₃ r (encode (powered t ts)))
      powered_some out₃ r a c t ts P =
          let B = base_order t ts P in
          let w = wrote t ts P in
          let S = written_some ts (λ x. h (omega (arith, w.ends))) in
          let f = moved (o + 1) (omega arith) (omega arith) t ts P out₂ q in
          -- the product behind is as it was written
          let s : bytes_in out₂ e n ≡ written ts =
          ap (take (n - e)) (widen e (omega (arith, B.0, B.1, B.2)) f).kept ∙ written_part B.3 w in
          let g = copied (e + term_room) out₂ out₃ (written ts) (o + 1 + (z - b)) r (omega (arith, B.0, B.1, B.2, (prod t ts P).fits))
          (omega (arith, B.0, B.1, B.2, fits t ts P)) (omega (arith, w.ends)) (c ∙ ap (splice out₂ (o + 1 + (z - b))) s) in
          let u : 10 ∷ (encode t ++ written ts) ≡ encode (powered t ts) =
          ap (λ (l : List ℕ). 10 ∷ (encode t ++ l)) (sym S.bytes)
          ∙ sym (encode_two 10 (omega arith) t (multiplied ts))
          ∙ ap encode (sym (S.power t)) in
          wrote_same u
          (stands_before (e + term_room) out out₃ o r 10 (encode t ++ written ts) P.tag (omega (arith, B.0, B.1, B.2, B.3))
          (over t ts P (o + 1) (omega (arith, B.0, B.1, B.2)) out₃ r _
          (wrote_then (widen (e + term_room) (omega (arith, B.0, B.1, B.2)) f) g)))
