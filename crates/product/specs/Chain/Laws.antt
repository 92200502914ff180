-- The bytes that are written are those of the term.
use Rattle.std.specs.Prelude.{ℕ, zero, suc, ◌+◌, ◌-◌, ◌≤◌, ◌<◌, ◌≡◌, refl, true, false, List, [], ◌∷◌, ◌++◌}
use Rattle.std.proofs.Common.{sym, ap₂, ◌∙◌, append-nil, append_assoc, arith, add-one, length-append}
use Rattle.std.proofs.Math.Path.{ap}
use Rattle.std.proofs.Math.ListN.{length}
use Rattle.term.specs.Tags.{inv_tag, mul_tag}
use Rattle.lists.specs.Choice.{pick, clash}
use Rattle.number.specs.Groups.Laws.{groups_one}
use Rattle.term.specs.Term.{Term, app, Terms, nil, ◌&◌, encode}
use Rattle.term.specs.Term.Laws.{encode_some}
use Rattle.message.specs.Functions.{exp, inv}
use Rattle.message.specs.Product.{times, ups, chain, quotient}
use Rattle.message.specs.Parts.{neg}
use Rattle.message.specs.Gather.{gather, multiplied, any, powered}
use Rattle.product.specs.Chain.{repeated, copies, row, sides, written}

-- ── the bytes of a function of one or two arguments, its tag one byte ──
module _ (f : ℕ) (h : f < 128) (t : Term) where
  pub encode_one : encode (app f (t & nil)) ≡ f ∷ encode t
  encode_one = ap₂ ◌++◌ (groups_one f h) (append-nil (encode t))

  pub encode_two : (u : Term) → encode (app f (t & u & nil)) ≡ f ∷ (encode t ++ encode u)
  encode_two u = ap₂ ◌++◌ (groups_one f h) (ap (λ (x : List ℕ). encode t ++ x) (append-nil (encode u)))

-- ── repeated factors ──
pub repeated_more : (n : ℕ) (x : List ℕ) → repeated (n + 1) x ≡ repeated n x ++ (mul_tag ∷ x)
unfolding repeated
repeated_more zero x = append-nil (mul_tag ∷ x)
repeated_more (suc n) x =
    rw add-one
    (ap (λ (z : List ℕ). (mul_tag ∷ x) ++ z) (rw add-one at (repeated_more n x)) ∙ sym (append_assoc (mul_tag ∷ x) (repeated n x) (mul_tag ∷ x)))

pub repeated_room : (i m : ℕ) (x : List ℕ) → i < m → length (repeated i x) + suc (length x) ≤ length (repeated m x)
unfolding repeated
repeated_room i zero x h = absurd (omega arith)
repeated_room zero (suc m) x h = omega (arith, length-append (mul_tag ∷ x) (repeated m x))
repeated_room (suc i) (suc m) x h =
    omega (arith, repeated_room i m x (omega arith), length-append (mul_tag ∷ x) (repeated m x), length-append (mul_tag ∷ x) (repeated i x))

row_times_more : (n : ℕ) (t u : Term) (us : Terms) → row (times n t (u & us)) ≡ repeated n (encode t) ++ row (u & us)
unfolding row repeated
row_times_more zero t u us = refl
row_times_more (suc zero) t u us = sym (ap (λ (z : List ℕ). z ++ row (u & us)) (append-nil (mul_tag ∷ encode t)))
row_times_more (suc (suc n)) t u us =
    ap (λ (z : List ℕ). (mul_tag ∷ encode t) ++ z) (row_times_more (suc n) t u us)
    ∙ sym (append_assoc (mul_tag ∷ encode t) (repeated (suc n) (encode t)) (row (u & us)))

row_times_last : (n : ℕ) (t : Term) → row (times (suc n) t nil) ≡ repeated n (encode t) ++ encode t
unfolding row repeated
row_times_last zero t = refl
row_times_last (suc n) t =
    ap (λ (z : List ℕ). (mul_tag ∷ encode t) ++ z) (row_times_last n t)
    ∙ sym (append_assoc (mul_tag ∷ encode t) (repeated n (encode t)) (encode t))

-- one factor, repeated, and then the others
pub row_times : (c : ℕ) (t : Term) (us : Terms) → 0 < c → row (times c t us) ≡ copies c (encode t) (any us) ++ row us
unfolding copies row
row_times zero t us h = absurd (omega arith)
row_times (suc n) t nil h =
    let z : suc n - 1 ≡ n = omega arith in
    rw z (row_times_last n t ∙ sym (append-nil (repeated n (encode t) ++ encode t)))
row_times (suc n) t (u & us) h = row_times_more (suc n) t u us

-- ── both sides ──
pub sides_up : (ps ns : Terms) → any ns ≡ false → sides ps ns ≡ row ps
unfolding sides row
sides_up nil nil h = refl
sides_up (p & ps) nil h = refl
sides_up ps (n & ns) h = clash (cc)

pub sides_down : (ps ns : Terms) → any ps ≡ false → any ns ≡ true → sides ps ns ≡ 11 ∷ row ns
unfolding sides
sides_down nil nil g h = clash (cc)
sides_down nil (n & ns) g h = refl
sides_down (p & ps) ns g h = clash (cc)

pub sides_both : (ps ns : Terms) → any ps ≡ true → any ns ≡ true → sides ps ns ≡ (mul_tag ∷ row ps) ++ (inv_tag ∷ row ns)
unfolding sides
sides_both nil ns g h = clash (cc)
sides_both (p & ps) nil g h = clash (cc)
sides_both (p & ps) (n & ns) g h = refl

-- ── the bytes of the term ──
row_chain : (t : Term) (us : Terms) → encode (chain t us) ≡ row (t & us)
unfolding row
row_chain t nil = refl
row_chain t (u & us) = encode_two 12 (omega arith) t (chain u us) ∙ ap (λ (z : List ℕ). 12 ∷ (encode t ++ z)) (row_chain u us)

row_inverse : (t : Term) (us : Terms) → encode (inv (chain t us)) ≡ 11 ∷ row (t & us)
row_inverse t us = encode_one 11 (omega arith) (chain t us) ∙ ap (λ (z : List ℕ). 11 ∷ z) (row_chain t us)

-- what is written is the term's bytes, and nothing for one
pub data Written (ps ns : Terms) : Type 0 where
  nothing : sides ps ns ≡ [] → any ps ≡ false → any ns ≡ false → encode (quotient ps ns) ≡ 3 ∷ [] → Written ps ns
  something : 0 < length (sides ps ns) → ((a b : Term) → pick (any ps) a (pick (any ns) a b) ≡ a) → encode (quotient ps ns) ≡ sides ps ns → Written ps ns

sides_some : (ps ns : Terms) → encode (quotient ps ns) ≡ sides ps ns → 0 < length (sides ps ns)
sides_some ps ns e = omega (arith, encode_some (quotient ps ns), ap length e)

pub sides_written : (ps ns : Terms) → Written ps ns
unfolding sides
sides_written nil nil = nothing refl refl refl (ap (λ (g : List ℕ). g ++ []) (groups_one 3 (omega arith)))
sides_written (p & ps) nil = let e = row_chain p ps in something (sides_some (p & ps) nil e) (λ a b. refl) e
sides_written nil (n & ns) = let e = row_inverse n ns in something (sides_some nil (n & ns) e) (λ a b. refl) e
sides_written (p & ps) (n & ns) =
    let e = encode_two 12 (omega arith) (chain p ps) (inv (chain n ns))
    ∙ ap₂ (λ (y z : List ℕ). 12 ∷ (y ++ z)) (row_chain p ps) (row_inverse n ns) in
    something (sides_some (p & ps) (n & ns) e) (λ a b. refl) e

-- ── products and powers of some terms ──
module _ (ts : Terms) where
  pub record None : Type 0 where
    pub bytes : encode (multiplied ts) ≡ 3 ∷ []
    pub power : (b : Term) → powered b ts ≡ b

  pub record Some : Type 0 where
    pub bytes : encode (multiplied ts) ≡ written ts
    pub power : (b : Term) → powered b ts ≡ exp b (multiplied ts)

  pub written_none : length (written ts) ≡ 0 → None
  unfolding written multiplied powered
  written_none h = go (sides_written (ups (gather ts)) (ups (neg (gather ts))))
    where
      go : Written (ups (gather ts)) (ups (neg (gather ts))) → None
      go (nothing e p n b) = record { bytes = b; power = λ t. rw (p, n) }
      go (something l p b) = absurd (omega arith)

  pub written_some : (length (written ts) ≡ 0 → ⊥) → Some
  unfolding written multiplied powered
  written_some h = go (sides_written (ups (gather ts)) (ups (neg (gather ts))))
    where
      go : Written (ups (gather ts)) (ups (neg (gather ts))) → Some
      go (nothing e p n b) = absurd (h (ap length e))
      go (something l p b) = record { bytes = b; power = λ t. p (exp t (multiplied ts)) t }

  pub written_short : length (written ts) ≤ length (encode (multiplied ts))
  unfolding written multiplied
  written_short = go (sides_written (ups (gather ts)) (ups (neg (gather ts))))
    where
      go : Written (ups (gather ts)) (ups (neg (gather ts))) → length (sides (ups (gather ts)) (ups (neg (gather ts)))) ≤ length
          (encode (quotient (ups (gather ts)) (ups (neg (gather ts)))))
      go (nothing e p n b) = omega (arith, ap length e)
      go (something l p b) = omega (arith, ap length b)
