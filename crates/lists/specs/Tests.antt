-- Booleans, options and numbers, case by case. Tests are equations, `b ≡ true` or `b ≡ false`.
use Rattle.std.specs.Prelude.{Option, Some, None, ◌≡◌, refl, ◌⊎◌, Bool, true, false, not, ◌&&◌, ◌||◌, ℕ, zero, suc, ◌+◌, ◌≤◌, ◌<◌, T, leb, eqb}
use Rattle.std.proofs.Common.{sym, ◌∙◌, inl, inr, ⊎_elim, arith, leb→le, eqb→eq}
use Rattle.std.proofs.Math.Dec.{nleb→lt, eqb_refl}
use Rattle.lists.specs.Lists.{bit}

pub by_bool : {C : Type 0} (b : Bool) → (b ≡ true → C) → (b ≡ false → C) → C
by_bool true t f = t refl
by_bool false t f = f refl

pub by_option : {A C : Type 0} (o : Option A) → (o ≡ None → C) → ((a : A) → o ≡ Some a → C) → C
by_option None n s = n refl
by_option (Some a) n s = s a refl

pub some_none : {A : Type 0} (x : A) → Some x ≡ None → ⊥
some_none x h = cc

pub true_false : {C : Type 0} (b : Bool) → b ≡ true → b ≡ false → C
true_false b t f = absurd (let z : ◌≡◌ {A = ℕ} 0 1 = cc in omega arith)

pub not_true : (b : Bool) → (b ≡ true → ⊥) → b ≡ false
not_true true h = absurd (h refl)
not_true false h = refl

pub not_split : (b : Bool) → not b ≡ true → b ≡ false
not_split true h = true_false false h refl
not_split false h = refl

pub not_false : (b : Bool) → not b ≡ false → b ≡ true
not_false true h = refl
not_false false h = true_false true refl h

pub not_from : (b : Bool) → (b ≡ true → ⊥) → not b ≡ true
not_from true h = absurd (h refl)
not_from false h = refl

pub not_both : (b : Bool) → not b ≡ true → b ≡ true → ⊥
not_both b h k = true_false b k (not_split b h)

pub and_split : (a b : Bool) → (a && b) ≡ true → (a ≡ true) × (b ≡ true)
and_split true b h = (refl, h)
and_split false b h = true_false false h refl

pub or_split : (a b : Bool) → (a || b) ≡ false → (a ≡ false) × (b ≡ false)
or_split true b h = true_false true refl h
or_split false b h = (refl, h)

pub or_cases : (a b : Bool) → (a || b) ≡ true → (a ≡ true) ⊎ (b ≡ true)
or_cases true b h = inl refl
or_cases false b h = inr h

pub or_right : (a b : Bool) → b ≡ true → (a || b) ≡ true
or_right true b h = refl
or_right false b h = h

pub and_false : (b : Bool) → (b && false) ≡ false
and_false true = refl
and_false false = refl

pub and_both : (a b : Bool) → a ≡ true → b ≡ true → (a && b) ≡ true
and_both a b h k = rw (h, k)

pub zero_or_pos : (n : ℕ) → (n ≡ 0) ⊎ (1 ≤ n)
zero_or_pos zero = inl refl
zero_or_pos (suc n) = inr (omega arith)

pub bit_le : (b : Bool) → bit b ≤ 1
bit_le true = omega arith
bit_le false = omega arith

pub bit_true : (b : Bool) → 1 ≤ bit b → b ≡ true
bit_true true h = refl
bit_true false h = absurd (omega arith)

pub at_most_one : (m n : ℕ) → m ≤ 1 → n ≤ 1 → (1 ≤ m → 1 ≤ n → ⊥) → m + n ≤ 1
at_most_one m n a b h = ⊎_elim (λ z. omega arith) (λ p. ⊎_elim (λ z. omega arith) (λ q. absurd (h p q)) (zero_or_pos n)) (zero_or_pos m)

T_true : (b : Bool) → b ≡ true → T b
T_true true e = tt
T_true false e = true_false false e refl

true_T : (b : Bool) → T b → b ≡ true
true_T true t = refl
true_T false t = absurd t

T_false : (b : Bool) → b ≡ false → T (not b)
T_false true e = true_false true refl e
T_false false e = tt

pub eqb_eq : (m n : ℕ) → eqb m n ≡ true → m ≡ n
eqb_eq m n e = eqb→eq m n (T_true _ e)

pub eqb_self : (n : ℕ) → eqb n n ≡ true
eqb_self n = true_T _ (eqb_refl n)

pub leb_le : (m n : ℕ) → leb m n ≡ true → m ≤ n
leb_le m n e = leb→le m n (T_true _ e)

pub leb_gt : (m n : ℕ) → leb m n ≡ false → n < m
leb_gt m n e = nleb→lt m n (T_false _ e)

pub le_leb : (m n : ℕ) → m ≤ n → leb m n ≡ true
le_leb m n h = by_bool (leb m n) (λ t. t) (λ f. absurd (let g = leb_gt m n f in omega arith))

pub gt_leb : (m n : ℕ) → n < m → leb m n ≡ false
gt_leb m n h = not_true _ (λ t. let g = leb_le m n t in omega arith)

-- A sum is positive where a part is.
pub leb_sum : (a b c : ℕ) → c ≡ a + b → leb 1 c ≡ (leb 1 a || leb 1 b)
leb_sum a b c e =
    by_bool (leb 1 a)
    (λ t. rw t (le_leb 1 c (omega (arith, leb_le 1 a t))))
    (λ f. rw f (by_bool (leb 1 b)
    (λ t. le_leb 1 c (omega (arith, leb_le 1 b t)) ∙ sym t)
    (λ g. gt_leb 1 c (omega (arith, leb_gt 1 a f, leb_gt 1 b g)) ∙ sym g)))
