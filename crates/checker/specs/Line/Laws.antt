-- Decimal figures one by one, the room of a number, one write behind the other, the line.
use Rattle.std.specs.Prelude.{ℕ, zero, suc, ◌+◌, ◌*◌, ◌/◌, ◌%◌, ◌^◌, ◌≤◌, ◌<◌, List, [], ◌∷◌, ◌++◌, Bool, ◌≡◌, refl, length, set}
use Rattle.std.proofs.Common.{ap, ap₂, sym, subst, ◌∙◌, arith, pow-suc, lt-ltb, le-ltb, length-append}
use Rattle.lists.specs.Choice.{pick, by_size}
use Rattle.octets.specs.Splice.{splice}
use Rattle.octets.specs.Splice.Laws.{sets_splice, splice_splice}
use Rattle.checker.specs.Check.{Answer, ruled}
use Rattle.checker.specs.Line.{figure, figures, decimal, line_of, line_room, Put}

-- ── figures one by one ──
module _ (most n : ℕ) where
  figures_one : n < 10 → figures (suc most) n ≡ figure n ∷ []
  figures_one h = ap (λ (b : Bool). pick b (figure n ∷ []) (figures most (n / 10) ++ (figure (n % 10) ∷ []))) (lt-ltb n 10 h)

  figures_more : 10 ≤ n → figures (suc most) n ≡ figures most (n / 10) ++ (figure (n % 10) ∷ [])
  figures_more h = ap (λ (b : Bool). pick b (figure n ∷ []) (figures most (n / 10) ++ (figure (n % 10) ∷ []))) (le-ltb n 10 h)

-- so many that none is missing are as many as any
figures_all : (m k n : ℕ) → n < m → n < k → figures m n ≡ figures k n
figures_all zero k n h i = absurd (omega arith)
figures_all (suc m) zero n h i = absurd (omega arith)
figures_all (suc m) (suc k) n h i = by_size n 10
    (λ l. figures_one m n l ∙ sym (figures_one k n l))
    (λ l.
    figures_more m n l
    ∙ ap (λ (xs : List ℕ). xs ++ (figure (n % 10) ∷ [])) (figures_all m k (n / 10) (omega arith) (omega arith))
    ∙ sym (figures_more k n l))

pub decimal_one : (n : ℕ) → n < 10 → decimal n ≡ figure n ∷ []
unfolding decimal
decimal_one n h = figures_one n n h

pub decimal_more : (n : ℕ) → 10 ≤ n → decimal n ≡ decimal (n / 10) ++ (figure (n % 10) ∷ [])
unfolding decimal
decimal_more n h =
    figures_more n n h
    ∙ ap (λ (xs : List ℕ). xs ++ (figure (n % 10) ∷ [])) (figures_all n (suc (n / 10)) (n / 10) (omega arith) (omega arith))

-- the figures before the last take one place less
pub last_room : (n : ℕ) → 10 ≤ n → length (decimal n) ≡ length (decimal (n / 10)) + 1
last_room n h = ap length (decimal_more n h) ∙ length-append (decimal (n / 10)) (figure (n % 10) ∷ [])

-- ── room ──
figures_few : (k m n : ℕ) → n < 10 ^ suc k → length (figures m n) ≤ suc k
figures_few k zero n h = omega arith
figures_few zero (suc m) n h = let e = ap length (figures_one m n (omega (arith, h))) in omega (arith, e)
figures_few (suc k) (suc m) n h = by_size n 10
    (λ l. let e = ap length (figures_one m n l) in omega (arith, e))
    (λ l.
    let p : 10 ^ suc (suc k) ≡ 10 ^ suc k * 10 = pow-suc 10 (suc k) in
    let i = figures_few k m (n / 10) (omega (arith, h, p)) in
    let e = ap length (figures_more m n l) in
    let a = length-append (figures m (n / 10)) (figure (n % 10) ∷ []) in
    omega (arith, i, e, a))

-- a number of 64 bits has at most twenty figures
pub decimal_few : (n : ℕ) → n < 2 ^ 64 → length (decimal n) ≤ 20
unfolding decimal
decimal_few n h = figures_few 19 (suc n) n (omega (arith, h))

-- ── one write behind the other ──
pub put_one : (out : List ℕ) (at v : ℕ) → at < length out → Put out at (v ∷ []) (set out at v) (at + 1)
put_one out at v h = record { ends = refl; wrote = sets_splice out at (v ∷ []) (omega arith) }

pub put_then :
    {out one two xs ys : List ℕ} {at mid end : ℕ} → mid ≤ length out → Put out at xs one mid → Put one mid ys two end
    → Put out at (xs ++ ys) two end
put_then {out} {one} {two} {xs} {ys} {at} {mid} {end} room f g = record {
  ends = omega (arith, f.ends, g.ends, length-append xs ys);
  wrote =
      g.wrote
      ∙ ap₂ (λ (l : List ℕ) (i : ℕ). splice l i ys) f.wrote f.ends
      ∙ splice_splice out at xs (omega (arith, f.ends, room)) ys;
}

-- ── the figures of a number ──
pub put_figure : (out : List ℕ) (at n : ℕ) → n < 10 → at < length out → Put out at (decimal n) (set out at (figure n)) (at + 1)
put_figure out at n h i =
    subst (λ (xs : List ℕ). Put out at xs (set out at (figure n)) (at + 1)) (sym (decimal_one n h)) (put_one out at (figure n) i)

pub put_last :
    (out : List ℕ) (at n : ℕ) {one : List ℕ} {mid : ℕ} → 10 ≤ n → mid < length one → length one ≡ length out
    → Put out at (decimal (n / 10)) one mid → Put out at (decimal n) (set one mid (figure (n % 10))) (mid + 1)
put_last out at n {one} {mid} h i e f =
    subst (λ (xs : List ℕ). Put out at xs (set one mid (figure (n % 10))) (mid + 1)) (sym (decimal_more n h))
    (put_then (omega (arith, i, e)) f (put_one one mid (figure (n % 10)) i))

-- there is a figure
pub decimal_some : (n : ℕ) → 1 ≤ length (decimal n)
decimal_some n = by_size n 10
    (λ h. let e = ap length (decimal_one n h) in omega (arith, e))
    (λ h. let e = last_room n h in omega (arith, e))

-- ── the line ──
-- its word, at the start
pub put_word : (out word : List ℕ) {one : List ℕ} {mid : ℕ} → mid ≡ 0 + length word → one ≡ splice out 0 word → Put out 0 word one mid
put_word out word e w = record { ends = e; wrote = w }

-- what a buffer holds once the line of a ruling is written, and its length
abbrev pub Lined : Answer → List ℕ → List ℕ → ℕ → Type 0
Lined r out out' n = (out' ≡ splice out 0 (line_of (ruled r))) × ((n ≡ length (line_of (ruled r))) × (n ≤ line_room))

pub put_line :
    {r v : Answer} {out out' : List ℕ} {n : ℕ} → r ≡ v → Put out 0 (line_of (ruled v)) out' n → n ≤ line_room → Lined r out out' n
put_line {r} {v} {out} {out'} {n} e f h =
    subst (λ (x : Answer). Lined x out out' n) (sym e) (f.wrote, (omega (arith, f.ends), h))
