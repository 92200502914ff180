-- The laws of groups: a number below 128 is one group, another is its low seven bits and the groups of the rest; they are bytes, at least
-- one, and those of one number are never a proper prefix of another's.
use Rattle.std.specs.Prelude.{ℕ, zero, suc, ◌+◌, ◌/◌, ◌%◌, ◌^◌, ◌≤◌, ◌<◌, List, [], ◌∷◌, ◌++◌, ◌≡◌, refl, length}
use Rattle.std.proofs.Common.{ap, sym, ◌∙◌, subst, arith, lt-ltb, le-ltb}
use Rattle.lists.specs.Choice.{by_size}
use Rattle.octets.specs.Head.{Bytes, bytes_none, bytes_more}
use Rattle.number.specs.Groups.{groups_in, groups}

-- ── the two cases ──
in_one : (b n : ℕ) → n < 128 → groups_in b n ≡ n ∷ []
unfolding groups_in
in_one zero n h = refl
in_one (suc b) n h = rw (groups_in, lt-ltb n 128 h)

in_more : (b n : ℕ) → 128 ≤ n → groups_in (suc b) n ≡ (128 + n % 128) ∷ groups_in b (n / 128)
unfolding groups_in
in_more b n h = rw (groups_in, le-ltb n 128 h)

-- any bound that is enough gives the same
in_same : (b c n : ℕ) → n ≤ b → n ≤ c → groups_in b n ≡ groups_in c n
in_same zero c n h k = in_one zero n (omega arith) ∙ sym (in_one c n (omega arith))
in_same (suc b) zero n h k = in_one (suc b) n (omega arith) ∙ sym (in_one zero n (omega arith))
in_same (suc b) (suc c) n h k =
    by_size n 128
    (λ l. in_one (suc b) n l ∙ sym (in_one (suc c) n l))
    (λ l. in_more b n l
    ∙ ap (λ (xs : List ℕ). (128 + n % 128) ∷ xs) (in_same b c (n / 128) (omega arith) (omega arith))
    ∙ sym (in_more c n l))

pub groups_one : (n : ℕ) → n < 128 → groups n ≡ n ∷ []
unfolding groups
groups_one n h = in_one n n h

pub groups_more : (n : ℕ) → 128 ≤ n → groups n ≡ (128 + n % 128) ∷ groups (n / 128)
unfolding groups
groups_more n h =
    in_same n (suc n) n (omega arith) (omega arith)
    ∙ in_more n n h
    ∙ ap (λ (xs : List ℕ). (128 + n % 128) ∷ xs) (in_same n (n / 128) (n / 128) (omega arith) (omega arith))

-- ── induction: from the rest to the number ──
module _ (P : ℕ → Type 0) (one : (n : ℕ) → n < 128 → P n) (more : (n : ℕ) → 128 ≤ n → P (n / 128) → P n) where
  within : (b n : ℕ) → n ≤ b → P n
  within zero n h = one n (omega arith)
  within (suc b) n h = by_size n 128 (one n) (λ l. more n l (within b (n / 128) (omega arith)))

  pub by_groups : (n : ℕ) → P n
  by_groups n = within n n (omega arith)

pub groups_some : (n : ℕ) → 0 < length (groups n)
groups_some n = by_size n 128 (λ h. rw (groups_one n h) (omega arith)) (λ h. rw (groups_more n h) (omega arith))

pub groups_short : (n : ℕ) → length (groups n) ≤ n + 1
groups_short =
    by_groups (λ n. length (groups n) ≤ n + 1)
    (λ n h. rw (groups_one n h) (omega arith))
    (λ n h ih. rw (groups_more n h) (omega arith))

-- so many groups hold the numbers of seven bits each
pub groups_few : (k n : ℕ) → n < 128 ^ suc k → length (groups n) ≤ suc k
groups_few zero n h = omega (arith, ap length (groups_one n (omega arith)))
groups_few (suc k) n h =
    by_size n 128
    (λ l. omega (arith, ap length (groups_one n l)))
    (λ l.
    let r = groups_few k (n / 128) (omega arith) in
    omega (arith, r, ap length (groups_more n l)))

pub groups_bytes : (n : ℕ) → Bytes (groups n)
groups_bytes =
    by_groups (λ n. Bytes (groups n))
    (λ n h. subst Bytes (sym (groups_one n h)) (bytes_more n [] (omega arith) bytes_none))
    (λ n h ih. subst Bytes (sym (groups_more n h)) (bytes_more (128 + n % 128) (groups (n / 128)) (omega arith) ih))

-- ── the groups of one number are never a proper prefix of another's ──
abbrev Alone : ℕ → Type 0
Alone m = (n : ℕ) (x y : List ℕ) → groups m ++ x ≡ groups n ++ y → (m ≡ n) × (x ≡ y)

alone_one : (m : ℕ) → m < 128 → Alone m
alone_one m h n x y e =
    by_size n 128
    (λ l. let d : m ∷ x ≡ n ∷ y = sym (ap (λ (q : List ℕ). q ++ x) (groups_one m h)) ∙ e ∙ ap (λ (q : List ℕ). q ++ y) (groups_one n l) in
    (cc, cc))
    (λ l. let d : m ∷ x ≡ (128 + n % 128) ∷ (groups (n / 128) ++ y) =
    sym (ap (λ (q : List ℕ). q ++ x) (groups_one m h)) ∙ e ∙ ap (λ (q : List ℕ). q ++ y) (groups_more n l) in
    let p : m ≡ 128 + n % 128 = cc in
    absurd (omega arith))

alone_more : (m : ℕ) → 128 ≤ m → Alone (m / 128) → Alone m
alone_more m h ih n x y e =
    by_size n 128
    (λ l. let d : (128 + m % 128) ∷ (groups (m / 128) ++ x) ≡ n ∷ y =
    sym (ap (λ (q : List ℕ). q ++ x) (groups_more m h)) ∙ e ∙ ap (λ (q : List ℕ). q ++ y) (groups_one n l) in
    let p : 128 + m % 128 ≡ n = cc in
    absurd (omega arith))
    (λ l. let d : (128 + m % 128) ∷ (groups (m / 128) ++ x) ≡ (128 + n % 128) ∷ (groups (n / 128) ++ y) =
    sym (ap (λ (q : List ℕ). q ++ x) (groups_more m h)) ∙ e ∙ ap (λ (q : List ℕ). q ++ y) (groups_more n l) in
    let p : 128 + m % 128 ≡ 128 + n % 128 = cc in
    let r = ih (n / 128) x y (cc) in
    let s : m / 128 ≡ n / 128 = r.0 in
    (omega arith, r.1))

pub groups_prefix : (m n : ℕ) (x y : List ℕ) → groups m ++ x ≡ groups n ++ y → (m ≡ n) × (x ≡ y)
groups_prefix m n x y e = by_groups Alone alone_one alone_more m n x y e
