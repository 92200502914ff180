-- What `put_many` and `put_factor` ask and promise.
use Prim.Native.Nat.{ℕ, ◌+◌, ◌-◌, ◌≤◌, ◌<◌}
use mathlib.Core.Path.{◌≡◌, refl, sym, ap, ap₂, ◌∙◌}
use mathlib.Core.Bool.{Bool, true, false}
use mathlib.Core.List.{List, [], ◌∷◌, ◌++◌, append-nil}
use native.Mathlib.Omega.{arith}
use lib.ListN.{length, get_or, set, length-append, length-set}
use lib.Seq.{get_or-set_other}
use Rattle.octets.specs.Splice.{splice}
use Rattle.octets.specs.Splice.Prefix.{Wrote, widen, wrote_nothing, wrote_one, wrote_then}
use Rattle.factors.specs.Rows.Laws.{part_two}
use Rattle.product.specs.Writing.{wrote_same, copied, tagged, below_kept, bytes_in, part_long, part_same}
use Rattle.product.specs.Chain.{repeated, copies}
use Rattle.product.specs.Chain.Laws.{repeated_more, repeated_room}

-- the factor's bytes as they are while more is written behind them
kept_part :
    (out out₀ : List ℕ) (o p a e : ℕ) (q : List ℕ) → (a ≤ e) × (e ≤ o) → o ≤ length out₀ → length out ≡ length out₀ → Wrote p out₀ o out p q
    → bytes_in out a e ≡ bytes_in out₀ a e
kept_part out out₀ o p a e q h l k w =
    part_same out₀ out o a e (below_kept l w) h.0 h.1 (omega (arith, h.1)) (omega (arith, h.1))

-- ── many ──
module _ (out₀ : List ℕ) (o a e m : ℕ) (pre : (a ≤ e) × (e ≤ o) × (o + length (repeated m (bytes_in out₀ a e)) ≤ length out₀)) where
  abbrev x : List ℕ
  x = bytes_in out₀ a e

  long : length x ≡ e - a
  long = part_long out₀ a e (omega (arith, pre.1, pre.2))

  pub many_first : Wrote o out₀ o out₀ o (repeated 0 x)
  unfolding repeated
  many_first = wrote_nothing o o out₀

  pub many_place : o ≤ length out₀
  many_place = omega (arith, pre.2)

  module _ (out : List ℕ) (p i : ℕ) (I : (length out ≡ length out₀) × Wrote p out₀ o out p (repeated i x)) (h : i < m) where
    pub many_room : p + 1 + (e - a) ≤ length out
    many_room = omega (arith, pre.2, I.0, I.1.ends, repeated_room i m x h, long)

    pub many_behind : o ≤ p
    many_behind = omega (arith, I.1.ends)

    -- the tag is written behind the factor
    tag_kept : bytes_in (set out p 12) a e ≡ x
    tag_kept =
        let l = length-set out p 12 in
        part_same out (set out p 12) p a e (below_kept (omega (arith, many_room)) (wrote_one (p + 1) p 12 out (omega arith) (omega (arith, many_room))))
        pre.0
        (omega (arith, pre.1, many_behind)) (omega (arith, pre.1, many_behind, many_room)) (omega (arith, pre.1, many_behind, many_room, l))
        ∙ kept_part out out₀ o p a e (repeated i x) (pre.0, pre.1) many_place I.0 I.1

    pub many_more :
        (out' : List ℕ) (r : ℕ) → r ≡ p + 1 + (e - a) → out' ≡ splice (set out p 12) (p + 1) (bytes_in (set out p 12) a e)
        → Wrote r out₀ o out' r (repeated (i + 1) x)
    many_more out' r n q =
        wrote_same (sym (repeated_more i x))
        (wrote_then (widen r (omega arith) I.1)
        (tagged r out out' p r 12 x (omega arith) (omega (arith, many_room))
        (copied r (set out p 12) out' x (p + 1) r (omega (arith, many_room, length-set out p 12, long)) (omega (arith, long)) (omega (arith, long))
        (q ∙ ap (splice (set out p 12) (p + 1)) tag_kept))))

  -- ── once, and two bytes ──
  module _ (one : m ≡ 1) (two : e - a ≡ 2) where
    pub short_room : o + 1 + 2 ≤ length out₀
    short_room = omega (arith, many_room out₀ o 0 (refl, many_first) (omega arith))

    short_bytes : repeated m x ≡ 12 ∷ get_or out₀ a 0 ∷ get_or out₀ (a + 1) 0 ∷ []
    unfolding repeated
    short_bytes =
        ap (λ (k : ℕ). repeated k x) one ∙ append-nil (12 ∷ x)
        ∙ ap (λ (l : List ℕ). 12 ∷ l) (part_two out₀ a e two (omega (arith, pre.1, short_room)))

    abbrev out₁ : List ℕ
    out₁ = set out₀ o 12

    abbrev out₂ : List ℕ
    out₂ = set out₁ (o + 1) (get_or out₁ a 0)

    first_byte : get_or out₁ a 0 ≡ get_or out₀ a 0
    first_byte = get_or-set_other out₀ o a 12 0 (λ z. omega (arith, pre.1))

    second_byte : get_or out₂ (a + 1) 0 ≡ get_or out₀ (a + 1) 0
    second_byte =
        get_or-set_other out₁ (o + 1) (a + 1) (get_or out₁ a 0) 0 (λ z. omega (arith, pre.1))
        ∙ get_or-set_other out₀ o (a + 1) 12 0 (λ z. omega (arith, pre.1))

    pub short_wrote :
        (j r : ℕ) → j ≡ o + 1 + 1 → r ≡ o + 1 + 1 + 1 → Wrote r out₀ o (set out₂ j (get_or out₂ (a + 1) 0)) r (repeated m x)
    short_wrote j r p q =
        let l₁ : length out₁ ≡ length out₀ = length-set out₀ o 12 in
        let l₂ : length out₂ ≡ length out₁ = length-set out₁ (o + 1) (get_or out₁ a 0) in
        wrote_same (sym (short_bytes ∙ sym (ap₂ (λ (u v : ℕ). 12 ∷ u ∷ v ∷ []) first_byte second_byte)))
        (rw (p, q) (wrote_then (wrote_one (o + 1 + 1 + 1) o 12 out₀ (omega arith) (omega (arith, short_room)))
        (wrote_then (wrote_one (o + 1 + 1 + 1) (o + 1) (get_or out₁ a 0) out₁ (omega arith) (omega (arith, short_room)))
        (wrote_one (o + 1 + 1 + 1) (o + 1 + 1) (get_or out₂ (a + 1) 0) out₂ (omega arith) (omega (arith, short_room))))))

-- ── one factor, the last without a tag unless more comes ──
module _ (n : ℕ) (x : List ℕ) where
  copies_more : (more : Bool) → more ≡ true → copies n x more ≡ repeated n x
  unfolding copies
  copies_more more h = rw h

  copies_last : (more : Bool) → more ≡ false → copies n x more ≡ repeated (n - 1) x ++ x
  unfolding copies
  copies_last more h = rw h

module _ (out : List ℕ) (o a e n : ℕ) (more : Bool) (pre : (0 < n) × (a ≤ e) × (e ≤ o) × (o + length (copies n (bytes_in out a e) more) ≤ length out)) where
  module _ (h : more ≡ true) where
    pub all_asks : (a ≤ e) × (e ≤ o) × (o + length (repeated n (bytes_in out a e)) ≤ length out)
    all_asks = (pre.1, pre.2, omega (arith, pre.3, ap length (copies_more n (bytes_in out a e) more h)))

    pub all_wrote :
        (out' : List ℕ) (r : ℕ) → Wrote r out o out' r (repeated n (bytes_in out a e)) → Wrote r out o out' r (copies n (bytes_in out a e) more)
    all_wrote out' r w = wrote_same (sym (copies_more n (bytes_in out a e) more h)) w

  module _ (h : more ≡ false) where
    abbrev y : List ℕ
    y = bytes_in out a e

    y_long : length y ≡ e - a
    y_long = part_long out a e (omega (arith, pre.2, pre.3))

    all_long : length (copies n y more) ≡ length (repeated (n - 1) y) + length y
    all_long = ap length (copies_last n y more h) ∙ length-append (repeated (n - 1) y) y

    pub but_last_asks : (a ≤ e) × (e ≤ o) × (o + length (repeated (n - 1) y) ≤ length out)
    but_last_asks = (pre.1, pre.2, omega (arith, all_long, pre.3))

    module _ (out₁ : List ℕ) (p : ℕ) (w : Wrote p out o out₁ p (repeated (n - 1) y)) (k : length out₁ ≡ length out) where
      pub last_asks : (a + (e - a) ≤ length out₁) × (p + (e - a) ≤ length out₁)
      last_asks = (omega (arith, pre.1, pre.2, pre.3), omega (arith, all_long, pre.3, w.ends, y_long))

      pub last_wrote :
          (out₂ : List ℕ) (r : ℕ) → r ≡ p + (e - a) → out₂ ≡ splice out₁ p (bytes_in out₁ a e) → Wrote r out o out₂ r (copies n y more)
      last_wrote out₂ r v q =
          let s = kept_part out₁ out o p a e (repeated (n - 1) y) (pre.1, pre.2) (omega (arith, pre.3)) k w in
          wrote_same (sym (copies_last n y more h))
          (wrote_then (widen r (omega arith) w)
          (copied r out₁ out₂ y p r (omega (arith, last_asks.1, y_long)) (omega (arith, y_long)) (omega (arith, y_long)) (q ∙ ap (splice out₁ p) s)))
