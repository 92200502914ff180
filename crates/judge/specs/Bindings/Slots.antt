-- What a variable's slot holds, before and after an entry is bound.
use Rattle.std.specs.Prelude.{ℕ, zero, suc, ◌+◌, ◌-◌, ◌≤◌, ◌<◌, List, [], ◌∷◌, ◌++◌, map, Bool, true, false, ◌&&◌, ◌||◌, ◌≡◌, refl, length, get_or, set, ltb, eqb, leb}
use Rattle.std.proofs.lemmas.Bool.{false≢true, eqb-false}
use Rattle.std.proofs.Common.{sym, ap, ap₂, ◌∙◌, arith, length-set, get_or-set_same, get_or-set_other, leb-true, lt-ltb, le-ltb, ltb-true, eqb-true, ne_eqb}
use Rattle.lists.specs.Choice.{pick}
use Rattle.lists.specs.Tests.{by_bool, and_split, and_both, and_false, le_leb, gt_leb, true_false}
use Rattle.lists.specs.Lists.{any_by, row}
use Rattle.property.specs.Figures.{most_scope}
use Rattle.property.specs.Formula.{Sort, msg, tmp, Term, var, public}
use Rattle.property.specs.Fit.{is_var, in_scope, term_fits}
use Rattle.property.specs.Meaning.{message_at, time_at, term_under}
use Rattle.property.specs.Judge.{first}
use Rattle.property.specs.Judge.Numbers.{numbers}
use Rattle.judge.specs.Bindings.{of_sort, bound_from, bound, code, value, is_new, put, finish}

-- ── scopes ──
pub scope_short : (s : List Sort) (y : ℕ) (t : Sort) → in_scope s y t ≡ true → y < length s
scope_short [] y t e = absurd (false≢true e)
scope_short (x ∷ s) zero t e = omega arith
scope_short (x ∷ s) (suc y) t e = omega (arith, scope_short s y t e)

pub scope_append : (s r : List Sort) (y : ℕ) (t : Sort) → in_scope (s ++ r) (length s + y) t ≡ in_scope r y t
scope_append [] r y t = let z : 0 + y ≡ y = omega arith in ap (λ (m : ℕ). in_scope r m t) z
scope_append (x ∷ s) r y t =
    let z : suc (length s) + y ≡ suc (length s + y) = omega arith in
    ap (λ (m : ℕ). in_scope (x ∷ (s ++ r)) m t) z ∙ scope_append s r y t

pub scope_one : (s : List Sort) (y : ℕ) → in_scope s y msg ≡ true → in_scope s y tmp ≡ true → ⊥
scope_one [] y e d = false≢true e
scope_one (msg ∷ s) zero e d = false≢true d
scope_one (tmp ∷ s) zero e d = false≢true e
scope_one (x ∷ s) (suc y) e d = scope_one s y e d

-- ── what is bound ──
pub bound_append : (x : ℕ) (s r : List Sort) (b : List ℕ) → bound_from x (s ++ r) b ≡ bound_from x s b ++ bound_from (x + length s) r b
bound_append x [] r b = let z : x ≡ x + 0 = omega arith in ap (λ (m : ℕ). bound_from m r b) z
bound_append x (t ∷ s) r b =
    let z : suc x + length s ≡ x + suc (length s) = omega arith in
    ap (λ l. of_sort t (get_or b x 0) ∷ l) (bound_append (suc x) s r b ∙ ap (λ (m : ℕ). bound_from (suc x) s b ++ bound_from m r b) z)

pub bound_length : (x : ℕ) (s : List Sort) (b : List ℕ) → length (bound_from x s b) ≡ length s
bound_length x [] b = refl
bound_length x (t ∷ s) b = ap suc (bound_length (suc x) s b)

pub bound_same :
    (x : ℕ) (s : List Sort) (b c : List ℕ) → ((y : ℕ) → y < x + length s → get_or b y 0 ≡ get_or c y 0) → bound_from x s b ≡ bound_from x s c
bound_same x [] b c h = refl
bound_same x (t ∷ s) b c h = ap₂ (λ v l. of_sort t v ∷ l) (h x (omega arith)) (bound_same (suc x) s b c (λ y l. h y (omega arith)))

here : (b : List ℕ) (x : ℕ) → get_or b x 0 ≡ get_or b (x + 0) 0
here b x = let z : x ≡ x + 0 = omega arith in ap (λ (m : ℕ). get_or b m 0) z

next : (b : List ℕ) (x y : ℕ) → get_or b (suc x + y) 0 ≡ get_or b (x + suc y) 0
next b x y = let z : suc x + y ≡ x + suc y = omega arith in ap (λ (m : ℕ). get_or b m 0) z

message_bound :
    (d x : ℕ) (s : List Sort) (b : List ℕ) (y : ℕ) → in_scope s y msg ≡ true → message_at d (bound_from x s b) y ≡ get_or b (x + y) 0
message_bound d x [] b y e = absurd (false≢true e)
message_bound d x (msg ∷ s) b zero e = here b x
message_bound d x (tmp ∷ s) b zero e = absurd (false≢true e)
message_bound d x (msg ∷ s) b (suc y) e = message_bound d (suc x) s b y e ∙ next b x y
message_bound d x (tmp ∷ s) b (suc y) e = message_bound d (suc x) s b y e ∙ next b x y

time_bound : (d x : ℕ) (s : List Sort) (b : List ℕ) (y : ℕ) → in_scope s y tmp ≡ true → time_at d (bound_from x s b) y ≡ get_or b (x + y) 0
time_bound d x [] b y e = absurd (false≢true e)
time_bound d x (tmp ∷ s) b zero e = here b x
time_bound d x (msg ∷ s) b zero e = absurd (false≢true e)
time_bound d x (msg ∷ s) b (suc y) e = time_bound d (suc x) s b y e ∙ next b x y
time_bound d x (tmp ∷ s) b (suc y) e = time_bound d (suc x) s b y e ∙ next b x y

-- ── as code finds them ──
pub value_slot : (base : ℕ) (b : List ℕ) (t : ℕ) → t < most_scope → get_or b t 0 ≡ value base b t
value_slot base b t l = ap (λ (z : Bool). pick z (get_or b t 0) (base + (t - most_scope))) (sym (lt-ltb t most_scope l))

pub value_name : (base : ℕ) (b : List ℕ) (t : ℕ) → most_scope ≤ t → base + (t - most_scope) ≡ value base b t
value_name base b t l = ap (λ (z : Bool). pick z (get_or b t 0) (base + (t - most_scope))) (sym (le-ltb t most_scope l))

-- a time variable's node, and a term's class
pub time_value : (s : List Sort) (b : List ℕ) (y : ℕ) → in_scope s y tmp ≡ true → get_or b y 0 ≡ time_at 0 (bound s b) y
time_value s b y e = let z : y ≡ 0 + y = omega arith in ap (λ (m : ℕ). get_or b m 0) z ∙ sym (time_bound 0 0 s b y e)

pub term_value :
    (base : ℕ) (s : List Sort) (b : List ℕ) (t : Term) → length s ≤ most_scope → term_fits s t ≡ true
    → value base b (code t) ≡ term_under (numbers base) (bound s b) t
term_value base s b (var y) l e =
    let z : y ≡ 0 + y = omega arith in
    sym (value_slot base b y (omega (arith, scope_short s y msg e)))
    ∙ ap (λ (m : ℕ). get_or b m 0) z
    ∙ sym (message_bound (base + 0) 0 s b y e)
term_value base s b (public n) l e =
    let z : most_scope + n - most_scope ≡ n = omega arith in
    sym (value_name base b (most_scope + n) (omega arith)) ∙ ap (λ (m : ℕ). base + m) z

-- ── storing ──
new_from : (n t : ℕ) → is_new n t ≡ true → n ≤ t
new_from n t h = leb-true n t (and_split (leb n t) (ltb t most_scope) h).0

new_of : (n t : ℕ) → n ≤ t → t < most_scope → is_new n t ≡ true
new_of n t l m = and_both (leb n t) (ltb t most_scope) (le_leb n t l) (lt-ltb t most_scope m)

-- no variable is new where all are bound
pub none_new : (t : ℕ) → is_new most_scope t ≡ false
none_new t = by_bool (ltb t most_scope)
    (λ y. ap₂ ◌&&◌ (gt_leb most_scope t (ltb-true t most_scope y)) y)
    (λ y. ap (λ (z : Bool). leb most_scope t && z) y ∙ and_false (leb most_scope t))

pub put_length : (n t v : ℕ) (c : List ℕ) → length (put n t v c) ≡ length c
put_length n t v c = go (is_new n t)
  where
    go : (z : Bool) → length (pick z (set c t v) c) ≡ length c
    go true = length-set c t v
    go false = refl

pub put_low : (n t v : ℕ) (c : List ℕ) (x : ℕ) → x < n → get_or (put n t v c) x 0 ≡ get_or c x 0
put_low n t v c x l = go (is_new n t) refl
  where
    go : (z : Bool) → is_new n t ≡ z → get_or (pick z (set c t v) c) x 0 ≡ get_or c x 0
    go true h = get_or-set_other c t x v 0 (λ e. omega (arith, new_from n t h))
    go false h = refl

pub put_at :
    (n t v : ℕ) (c : List ℕ) (x : ℕ) → n ≤ x → x < most_scope → x < length c → get_or (put n t v c) x 0 ≡ pick (eqb x t) v (get_or c x 0)
put_at n t v c x l m i = go (is_new n t) refl (eqb x t) refl
  where
    go : (z : Bool) → is_new n t ≡ z → (y : Bool) → eqb x t ≡ y → get_or (pick z (set c t v) c) x 0 ≡ pick y v (get_or c x 0)
    go true h true k = ap (λ (j : ℕ). get_or (set c j v) x 0) (sym (eqb-true x t k)) ∙ get_or-set_same c x v 0 i
    go true h false k = get_or-set_other c t x v 0 (eqb-false x t k)
    go false h true k = true_false (is_new n x) (new_of n x l m) (ap (is_new n) (eqb-true x t k) ∙ h)
    go false h false k = refl

-- the last store of a slot, going down: the first occurrence
first_up : (ℕ → ℕ) → (ℕ → ℕ) → ℕ → ℕ → ℕ → ℕ
first_up t m x zero d = d
first_up t m x (suc k) d = first_up t m x k (pick (eqb x (t k)) (m k) d)

pub finish_length : (t m : ℕ → ℕ) (n k : ℕ) (c : List ℕ) → length (finish t m n k c) ≡ length c
finish_length t m n zero c = refl
finish_length t m n (suc k) c = finish_length t m n k (put n (t k) (m k) c) ∙ put_length n (t k) (m k) c

pub finish_low : (t m : ℕ → ℕ) (n k : ℕ) (c : List ℕ) (x : ℕ) → x < n → get_or (finish t m n k c) x 0 ≡ get_or c x 0
finish_low t m n zero c x l = refl
finish_low t m n (suc k) c x l = finish_low t m n k (put n (t k) (m k) c) x l ∙ put_low n (t k) (m k) c x l

finish_at :
    (t m : ℕ → ℕ) (n k : ℕ) (c : List ℕ) (x : ℕ) → n ≤ x → x < most_scope → x < length c
    → get_or (finish t m n k c) x 0 ≡ first_up t m x k (get_or c x 0)
unfolding first_up
finish_at t m n zero c x l s i = refl
finish_at t m n (suc k) c x l s i =
    finish_at t m n k (put n (t k) (m k) c) x l s (omega (arith, put_length n (t k) (m k) c)) ∙ ap (first_up t m x k) (put_at n (t k) (m k) c x l s i)

up_shift : (t m : ℕ → ℕ) (x k d : ℕ) → first_up t m x (suc k) d ≡ pick (eqb x (t 0)) (m 0) (first_up (λ j. t (suc j)) (λ j. m (suc j)) x k d)
unfolding first_up
up_shift t m x zero d = refl
up_shift t m x (suc k) d = up_shift t m x k (pick (eqb x (t (suc k))) (m (suc k)) d)

up_same : (t u m : ℕ → ℕ) (x k d : ℕ) → ((j : ℕ) → j < k → t j ≡ u j) → first_up t m x k d ≡ first_up u m x k d
unfolding first_up
up_same t u m x zero d h = refl
up_same t u m x (suc k) d h =
    up_same t u m x k (pick (eqb x (t k)) (m k) d) (λ j l. h j (omega arith))
    ∙ ap (λ (z : ℕ). first_up u m x k (pick (eqb x z) (m k) d)) (h k (omega arith))

abbrev codes_of : List Term → ℕ → ℕ
codes_of ts j = get_or (map code ts) j 0

abbrev after : (ℕ → ℕ) → ℕ → ℕ
after m j = m (suc j)

up_first :
    (base : ℕ) (ts : List Term) (m : ℕ → ℕ) (x d : ℕ) → x < most_scope → any_by (is_var x) ts ≡ true
    → first_up (codes_of ts) m x (length ts) d ≡ first (numbers base) x ts (row m (length ts))
unfolding first_up
up_first base [] m x d l e = absurd (false≢true e)
up_first base (var y ∷ ts) m x d l e =
    up_shift (codes_of (var y ∷ ts)) m x (length ts) d ∙ go (eqb x y) (λ r. up_first base ts (after m) x d l r) e
  where
    go :
        (z : Bool)
        → (any_by (is_var x) ts ≡ true → first_up (codes_of ts) (after m) x (length ts) d ≡ first (numbers base) x ts (row (after m) (length ts)))
        → (z || any_by (is_var x) ts) ≡ true
        → pick z (m 0) (first_up (codes_of ts) (after m) x (length ts) d)
        ≡ elim z [ true ↦ m 0 | false ↦ first (numbers base) x ts (row (after m) (length ts)) ]
    go true r e = refl
    go false r e = r e
up_first base (public n ∷ ts) m x d l e =
    up_shift (codes_of (public n ∷ ts)) m x (length ts) d
    ∙ ap (λ (z : Bool). pick z (m 0) (first_up (codes_of ts) (after m) x (length ts) d)) (ne_eqb x (most_scope + n) (λ q. omega (arith, q)))
    ∙ up_first base ts (after m) x d l e

-- a new variable's slot, once the entry is bound
pub finish_first :
    (base : ℕ) (ts : List Term) (t m : ℕ → ℕ) (n : ℕ) (c : List ℕ) (x : ℕ) → ((j : ℕ) → j < length ts → t j ≡ get_or (map code ts) j 0)
    → n ≤ x → x < length c → x < most_scope → any_by (is_var x) ts ≡ true
    → get_or (finish t m n (length ts) c) x 0 ≡ first (numbers base) x ts (row m (length ts))
finish_first base ts t m n c x h l i short e =
    finish_at t m n (length ts) c x l short i
    ∙ up_same t (codes_of ts) m x (length ts) (get_or c x 0) h
    ∙ up_first base ts m x (get_or c x 0) short e

-- ── as the code has it ──
pub put_new : (n t v : ℕ) (c : List ℕ) → is_new n t ≡ true → set c t v ≡ put n t v c
put_new n t v c z = ap (λ (y : Bool). pick y (set c t v) c) (sym z)

pub put_old : (n t v : ℕ) (c : List ℕ) → is_new n t ≡ false → c ≡ put n t v c
put_old n t v c z = ap (λ (y : Bool). pick y (set c t v) c) (sym z)

pub new_inside : (n t : ℕ) → is_new n t ≡ true → t < most_scope
new_inside n t z = ltb-true t most_scope (and_split (leb n t) (ltb t most_scope) z).1

pub finish_step : (t m : ℕ → ℕ) (n j : ℕ) (c : List ℕ) → 0 < j → finish t m n (j - 1) (put n (t (j - 1)) (m (j - 1)) c) ≡ finish t m n j c
finish_step t m n zero c l = absurd (omega arith)
finish_step t m n (suc j) c l = let z : suc j - 1 ≡ j = omega arith in ap (λ (k : ℕ). finish t m n k (put n (t k) (m k) c)) z

pub finish_none : (t m : ℕ → ℕ) (n j : ℕ) (c : List ℕ) → ¬ (0 < j) → finish t m n j c ≡ c
finish_none t m n zero c l = refl
finish_none t m n (suc j) c l = absurd (l (omega arith))
