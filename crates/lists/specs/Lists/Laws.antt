-- What holds of the functions that count and search a list.
use Rattle.lists.specs.Tests.{some_none}
use Rattle.std.specs.Prelude.{◌≡◌, refl, Bool, true, false, not, ◌&&◌, ◌||◌, List, [], ◌∷◌, ◌++◌, map, ℕ, zero, suc, ◌+◌, ◌≤◌, ◌<◌, get_or, length, replicate}
use Rattle.std.proofs.Common.{sym, ◌∙◌, ap, ap₂, ⊎_elim, arith}
use Rattle.std.proofs.Math.Bool.{or_assoc, or-false}
use mathlib.Core.List.Memᴰ
use Rattle.std.specs.Prelude.{Option, Some, None}
use Rattle.std.proofs.lemmas.Option.{none-some, same_Some}
use Rattle.std.proofs.Math.ListN.{get_or-eq_default}
use Rattle.std.specs.Prelude.{slice_get}
use Rattle.std.proofs.lemmas.List.{get_or-replicate, length-replicate}
use Rattle.lists.specs.Choice.{by_order}
use Rattle.lists.specs.Lists.{◌∈◌, bit, count_by, any_by, all_by, first_by, remove_by, keep_by, nth, row}
use Rattle.lists.specs.Tests.{by_bool, by_option, true_false, not_true}

-- Counting.

module _ {A : Type 0} where
  pub count_append : (p : A → Bool) (xs ys : List A) → count_by p (xs ++ ys) ≡ count_by p xs + count_by p ys
  count_append p [] ys = omega arith
  count_append p (x ∷ xs) ys = omega (arith, count_append p xs ys)

  -- Removing the first that passes `p` takes just that element out of every count.
  pub count_remove : (p q : A → Bool) (xs : List A) (a : A) → first_by p xs ≡ Some a → count_by q xs ≡ bit (q a) + count_by q (remove_by p xs)
  count_remove p q [] a e = absurd (none-some a e)
  count_remove p q (x ∷ xs) a e =
      by_bool (p x)
      (λ t. rw t (rw (same_Some x a (rw t at e)) refl))
      (λ f. rw f (let ih = count_remove p q xs a (rw f at e) in omega arith))

  pub first_passes : (p : A → Bool) (xs : List A) (a : A) → first_by p xs ≡ Some a → p a ≡ true
  first_passes p [] a e = absurd (none-some a e)
  first_passes p (x ∷ xs) a e =
      by_bool (p x) (λ t. let i : x ≡ a = same_Some x a (rw t at e) in ap p (sym i) ∙ t) (λ f. first_passes p xs a (rw f at e))

  pub first_mem : (p : A → Bool) (xs : List A) (a : A) → first_by p xs ≡ Some a → a ∈ xs
  first_mem p [] a e = absurd (none-some a e)
  first_mem p (x ∷ xs) a e =
      by_bool (p x) (λ t. Memᴰ.head (sym (same_Some x a (rw t at e)))) (λ f. Memᴰ.tail (first_mem p xs a (rw f at e)))

  pub first_none : (p : A → Bool) (xs : List A) → first_by p xs ≡ None → count_by p xs ≡ 0
  first_none p [] e = refl
  first_none p (x ∷ xs) e =
      by_bool (p x) (λ t. absurd (some_none x (rw t at e))) (λ f. rw f (let ih = first_none p xs (rw f at e) in omega arith))

  pub first_some : (p : A → Bool) (xs : List A) → 1 ≤ count_by p xs → (a : A) × (first_by p xs ≡ Some a)
  first_some p xs h = by_option (first_by p xs) (λ n. absurd (omega (arith, first_none p xs n))) (λ a e. (a, e))

  pub count_remove_other : (p q : A → Bool) → ((a : A) → p a ≡ true → q a ≡ false) → (xs : List A) → count_by q (remove_by p xs) ≡ count_by q xs
  count_remove_other p q h [] = refl
  count_remove_other p q h (x ∷ xs) =
      by_bool (p x) (λ t. rw (t, h x t) (omega arith)) (λ f. rw f (let ih = count_remove_other p q h xs in omega arith))

  pub remove_mem : (p : A → Bool) (xs : List A) (a : A) → a ∈ remove_by p xs → a ∈ xs
  remove_mem p [] a m = m
  remove_mem p (x ∷ xs) a m =
      by_bool (p x)
      (λ t. Memᴰ.tail (rw t at m))
      (λ f. ⊎_elim (λ e. Memᴰ.head e) (λ k. Memᴰ.tail (remove_mem p xs a k)) (Memᴰ.cases_cons (rw f at m)))

  pub count_mono : (p q : A → Bool) → ((a : A) → p a ≡ true → q a ≡ true) → (xs : List A) → count_by p xs ≤ count_by q xs
  count_mono p q h [] = omega arith
  count_mono p q h (x ∷ xs) =
      let ih = count_mono p q h xs in
      by_bool (p x) (λ t. rw (t, h x t) (omega arith)) (λ f. rw f (omega arith))

  pub count_ext : (p q : A → Bool) (xs : List A) → ((a : A) → a ∈ xs → p a ≡ q a) → count_by p xs ≡ count_by q xs
  count_ext p q [] h = refl
  count_ext p q (x ∷ xs) h = rw (h x (Memᴰ.head refl), count_ext p q xs (λ a m. h a (Memᴰ.tail m)))

  pub count_mem : (p : A → Bool) (xs : List A) (a : A) → a ∈ xs → p a ≡ true → 1 ≤ count_by p xs
  count_mem p [] a m e = absurd (Memᴰ.not-nil m)
  count_mem p (x ∷ xs) a m e =
      ⊎_elim (λ i. omega (arith, ap bit (ap p (sym i) ∙ e))) (λ k. omega (arith, count_mem p xs a k e)) (Memᴰ.cases_cons m)

  pub count_pos : (p : A → Bool) (xs : List A) → 1 ≤ count_by p xs → (a : A) × (a ∈ xs) × (p a ≡ true)
  count_pos p [] h = absurd (omega arith)
  count_pos p (x ∷ xs) h =
      by_bool (p x)
      (λ t. (x, Memᴰ.head refl, t))
      (λ f. let (a, m, e) = count_pos p xs (let z = ap bit f in omega arith) in (a, Memᴰ.tail m, e))

  pub count_split : (p q : A → Bool) (xs : List A) → count_by p xs ≡ count_by (λ a. p a && q a) xs + count_by (λ a. p a && not (q a)) xs
  count_split p q [] = refl
  count_split p q (x ∷ xs) =
      let ih = count_split p q xs in
      by_bool (p x) (λ t. rw t (by_bool (q x) (λ u. rw u (omega arith)) (λ g. rw g (omega arith)))) (λ f. rw f (omega arith))

  pub count_keep : (p q : A → Bool) → ((a : A) → q a ≡ true → p a ≡ true) → (xs : List A) → count_by q (keep_by p xs) ≡ count_by q xs
  count_keep p q h [] = refl
  count_keep p q h (x ∷ xs) =
      let ih = count_keep p q h xs in
      by_bool (p x) (λ t. rw t (omega arith)) (λ f. rw (f, not_true (q x) (λ u. true_false (p x) (h x u) f)) (omega arith))

  pub any_snoc : (p : A → Bool) (xs : List A) (x : A) → any_by p (xs ++ (x ∷ [])) ≡ (any_by p xs || p x)
  any_snoc p [] x = or-false (p x)
  any_snoc p (y ∷ xs) x = ap (λ (b : Bool). p y || b) (any_snoc p xs x) ∙ sym (or_assoc (p y) (any_by p xs) (p x))

  pub any_mem : (p : A → Bool) (xs : List A) (a : A) → a ∈ xs → p a ≡ true → any_by p xs ≡ true
  any_mem p [] a m e = absurd (Memᴰ.not-nil m)
  any_mem p (x ∷ xs) a m e =
      by_bool (p x)
      (λ t. rw t)
      (λ f. rw f (⊎_elim (λ i. true_false (p x) (ap p (sym i) ∙ e) f) (λ k. any_mem p xs a k e) (Memᴰ.cases_cons m)))

  pub any_pos : (p : A → Bool) (xs : List A) → any_by p xs ≡ true → (a : A) × (a ∈ xs) × (p a ≡ true)
  any_pos p [] e = true_false false e refl
  any_pos p (x ∷ xs) e =
      by_bool (p x)
      (λ t. (x, Memᴰ.head refl, t))
      (λ f. let (a, m, u) = any_pos p xs (rw f at e) in (a, Memᴰ.tail m, u))

  -- A list does not pass a test: some element fails it.
  pub all_fails : (ok : A → Bool) (xs : List A) → all_by ok xs ≡ false → (a : A) × (a ∈ xs) × (ok a ≡ false)
  all_fails ok [] h = true_false true refl h
  all_fails ok (x ∷ xs) h =
      by_bool (ok x)
      (λ t. let (a, m, e) = all_fails ok xs (rw t at h) in (a, Memᴰ.tail m, e))
      (λ f. (x, Memᴰ.head refl, f))

  pub fails_all : (ok : A → Bool) (xs : List A) (a : A) → a ∈ xs → ok a ≡ false → all_by ok xs ≡ false
  fails_all ok [] a m e = absurd (Memᴰ.not-nil m)
  fails_all ok (x ∷ xs) a m e =
      by_bool (ok x)
      (λ t. rw t (⊎_elim (λ i. true_false (ok x) t (ap ok (sym i) ∙ e)) (λ n. fails_all ok xs a n e) (Memᴰ.cases_cons m)))
      (λ f. rw f)

  -- What is in the list stands at a number, and what stands at a number is in the list.
  mem_at : (xs : List A) (a : A) → a ∈ xs → (i : ℕ) × (slice_get xs i ≡ Some a)
  mem_at [] a m = absurd (Memᴰ.not-nil m)
  mem_at (x ∷ xs) a m =
      ⊎_elim (λ i. (0, ap {B = Option A} Some (sym i))) (λ n. let (i, h) = mem_at xs a n in (suc i, h)) (Memᴰ.cases_cons m)

  pub mem_nth : (xs : List A) (a : A) → a ∈ xs → (k : ℕ) × (nth xs k ≡ Some a)
  mem_nth xs a m = let (i, h) = mem_at xs a m in (suc i, h)

  at_mem : (xs : List A) (a : A) (i : ℕ) → slice_get xs i ≡ Some a → a ∈ xs
  at_mem [] a i h = absurd (none-some a h)
  at_mem (x ∷ xs) a zero h = Memᴰ.head (sym (same_Some x a h))
  at_mem (x ∷ xs) a (suc i) h = Memᴰ.tail (at_mem xs a i h)

  pub nth_mem : (xs : List A) (a : A) (k : ℕ) → nth xs k ≡ Some a → a ∈ xs
  nth_mem xs a zero h = absurd (none-some a h)
  nth_mem xs a (suc i) h = at_mem xs a i h

  -- What stands at a number, from 0, is what is read there with any default.
  pub at_inside : (d : A) (xs : List A) (i : ℕ) → i < length xs → slice_get xs i ≡ Some (get_or xs i d)
  at_inside d [] i h = absurd (omega arith)
  at_inside d (x ∷ xs) zero h = refl
  at_inside d (x ∷ xs) (suc i) h = at_inside d xs i (omega arith)

  pub at_outside : (xs : List A) (i : ℕ) → length xs ≤ i → slice_get xs i ≡ None
  at_outside [] i h = refl
  at_outside (x ∷ xs) zero h = absurd (omega arith)
  at_outside (x ∷ xs) (suc i) h = at_outside xs i (omega arith)

  pub at_some : (d : A) (xs : List A) (i : ℕ) (x : A) → slice_get xs i ≡ Some x → (i < length xs) × (get_or xs i d ≡ x)
  at_some d [] i x h = absurd (none-some x h)
  at_some d (y ∷ xs) zero x h = (omega arith, same_Some y x h)
  at_some d (y ∷ xs) (suc i) x h = let f = at_some d xs i x h in (omega (arith, f.0), f.1)

  -- A list behind another.
  pub first_behind : (p : A → Bool) (l m : List A) → first_by p l ≡ None → first_by p (l ++ m) ≡ first_by p m
  first_behind p [] m h = refl
  first_behind p (x ∷ xs) m h =
      by_bool (p x) (λ t. absurd (some_none x (rw t at h))) (λ f. rw f (first_behind p xs m (rw f at h)))

  pub first_before : (p : A → Bool) (l m : List A) (a : A) → first_by p l ≡ Some a → first_by p (l ++ m) ≡ Some a
  first_before p [] m a h = absurd (none-some a h)
  first_before p (x ∷ xs) m a h = by_bool (p x) (λ t. rw t (rw t at h)) (λ f. rw f (first_before p xs m a (rw f at h)))

  pub remove_behind : (p : A → Bool) (l m : List A) → first_by p l ≡ None → remove_by p (l ++ m) ≡ l ++ remove_by p m
  remove_behind p [] m h = refl
  remove_behind p (x ∷ xs) m h =
      by_bool (p x) (λ t. absurd (some_none x (rw t at h)))
      (λ f. rw f (ap (λ (l : List A). x ∷ l) (remove_behind p xs m (rw f at h))))

  pub remove_before : (p : A → Bool) (l m : List A) (a : A) → first_by p l ≡ Some a → remove_by p (l ++ m) ≡ remove_by p l ++ m
  remove_before p [] m a h = absurd (none-some a h)
  remove_before p (x ∷ xs) m a h =
      by_bool (p x) (λ t. rw t) (λ f. rw f (ap (λ (l : List A). x ∷ l) (remove_before p xs m a (rw f at h))))

  -- The number of an element is at most the length.
  pub nth_bound : (xs : List A) (k : ℕ) (x : A) → nth xs k ≡ Some x → k ≤ length xs
  nth_bound xs zero x h = absurd (none-some x h)
  nth_bound xs (suc i) x h = let l = at_some x xs i x h in omega (arith, l.0)

  pub count_all : (l : List A) → count_by (λ a. true) l ≡ length l
  count_all [] = refl
  count_all (x ∷ xs) = omega (arith, count_all xs)

-- The element of a number of a mapped list, from 0 and from 1.
module _ {A B : Type 0} (g : A → B) where
  pub at_map : (xs : List A) (i : ℕ) (x : A) → slice_get xs i ≡ Some x → slice_get (map g xs) i ≡ Some (g x)
  at_map [] i x h = absurd (none-some x h)
  at_map (y ∷ xs) zero x h = ap {B = Option B} (λ z. Some (g z)) (same_Some y x h)
  at_map (y ∷ xs) (suc i) x h = at_map xs i x h

  pub mapped_at : (xs : List A) (i : ℕ) (y : B) → slice_get (map g xs) i ≡ Some y → (x : A) × (slice_get xs i ≡ Some x) × (g x ≡ y)
  mapped_at [] i y h = absurd (none-some y h)
  mapped_at (x ∷ xs) zero y h = (x, refl, same_Some (g x) y h)
  mapped_at (x ∷ xs) (suc i) y h = mapped_at xs i y h

  pub map_nth : (xs : List A) (k : ℕ) (y : B) → nth (map g xs) k ≡ Some y → (x : A) × (nth xs k ≡ Some x) × (g x ≡ y)
  map_nth xs zero y h = absurd (none-some y h)
  map_nth xs (suc i) y h = mapped_at xs i y h

-- Rows.
pub row_same : {A : Type 0} (f g : ℕ → A) (k : ℕ) → ((i : ℕ) → i < k → f i ≡ g i) → row f k ≡ row g k
row_same f g zero h = refl
row_same f g (suc k) h = ap₂ (λ x l. x ∷ l) (h 0 (omega arith)) (row_same (λ j. f (suc j)) (λ j. g (suc j)) k (λ i l. h (suc i) (omega arith)))

pub row_map : {A B : Type 0} (f : A → B) (m : ℕ → A) (k : ℕ) → map f (row m k) ≡ row (λ i. f (m i)) k
row_map f m zero = refl
row_map f m (suc k) = ap (λ l. f (m 0) ∷ l) (row_map f (λ j. m (suc j)) k)

-- A list of zeros.
pub zeros_at : (n i : ℕ) → get_or (replicate {A = ℕ} n 0) i 0 ≡ 0
zeros_at n i =
    by_order i n
    (λ l. get_or-replicate n i 0 0 l)
    (λ e. get_or-eq_default (replicate n 0) 0 (omega (arith, e, length-replicate {A = ℕ} n 0)))
    (λ l. get_or-eq_default (replicate n 0) 0 (omega (arith, l, length-replicate {A = ℕ} n 0)))
