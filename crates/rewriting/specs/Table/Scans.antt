-- A pass with a state finds the smallest number of an element that is bad in the state that those before it leave.
use Rattle.std.specs.Prelude.{◌≡◌, refl, Bool, true, false, List, [], ◌∷◌, ℕ, zero, suc, ◌+◌, ◌<◌, take}
use Rattle.std.proofs.Common.{◌∙◌, ap, ap₂, arith}
use Rattle.std.specs.Prelude.{Some, None}
use Rattle.std.proofs.lemmas.Option.{none-some, same_Some}
use Rattle.std.specs.Prelude.{slice_get}
use Rattle.lists.specs.Tests.{by_bool, true_false, not_true}
use Rattle.lists.specs.Lists.{nth, before, leaves, scan}
use Rattle.rewriting.specs.Table.{Least, Finds}
use Rattle.rewriting.specs.Table.Laws.{finds_iff}

module _ {S A : Type 0} (bad : ℕ → S → A → Bool) (step : S → A → S) where
  -- The element of number `k` is bad; numbers start at `b`.
  record HitFrom (b : ℕ) (s : S) (xs : List A) (k : ℕ) : Type 0 where
    off : ℕ
    which : A
    far : k ≡ b + off
    stands : slice_get xs off ≡ Some which
    is_bad : bad k (leaves step s (take off xs)) which ≡ true

  hit_first : (b : ℕ) (s : S) (x : A) (xs : List A) → bad b s x ≡ true → HitFrom b s (x ∷ xs) b
  hit_first b s x xs t = record { off = 0; which = x; far = omega arith; stands = refl; is_bad = t }

  hit_later : (b : ℕ) (s : S) (x : A) (xs : List A) (k : ℕ) → HitFrom (suc b) (step s x) xs k → HitFrom b s (x ∷ xs) k
  hit_later b s x xs k h = record { off = suc h.off; which = h.which; far = omega (arith, h.far); stands = h.stands; is_bad = h.is_bad }

  later_hit : (b : ℕ) (s : S) (x : A) (xs : List A) → bad b s x ≡ false → (k : ℕ) → HitFrom b s (x ∷ xs) k → HitFrom (suc b) (step s x) xs k
  later_hit b s x xs f k h = go h.off refl h.stands h.is_bad
    where
      go : (o : ℕ) → h.off ≡ o → slice_get (x ∷ xs) o ≡ Some h.which → bad k (leaves step s (take o (x ∷ xs))) h.which ≡ true → HitFrom (suc b)
          (step s x) xs k
      go zero e p t =
          let n : b ≡ k = omega (arith, h.far) in
          true_false (bad b s x) (ap₂ (λ j y. bad j s y) n (same_Some x h.which p) ∙ t) f
      go (suc o) e p t = record { off = o; which = h.which; far = omega (arith, h.far); stands = p; is_bad = t }

  from_finds : (b : ℕ) (s : S) (xs : List A) → Finds (HitFrom b s xs) (scan bad step b s xs)
  from_finds b s [] = λ k h. none-some _ h.stands
  from_finds b s (x ∷ xs) =
      by_bool (bad b s x)
      (λ t. rw t (record { here = hit_first b s x xs t; below = λ j l h. omega (arith, h.far) }))
      (λ f. rw f
      (finds_iff (HitFrom (suc b) (step s x) xs) (HitFrom b s (x ∷ xs)) (hit_later b s x xs) (later_hit b s x xs f) (scan bad step (suc b) (step s x) xs)
      (from_finds (suc b) (step s x) xs)))

  -- Where nothing is bad below a number, the pass over the elements below it finds nothing.
  from_clear : (b : ℕ) (s : S) (xs : List A) (o : ℕ) → ((j : ℕ) → j < b + o → HitFrom b s xs j → ⊥) → scan bad step b s (take o xs) ≡ None
  from_clear b s xs zero h = refl
  from_clear b s [] (suc o) h = refl
  from_clear b s (x ∷ xs) (suc o) h =
      rw (not_true (bad b s x) (λ t. h b (omega arith) (hit_first b s x xs t)))
      (from_clear (suc b) (step s x) xs o (λ j l g. h j (omega arith) (hit_later b s x xs j g)))

  -- The same in the numbers of a file, from 1.
  pub record Hit (s : S) (xs : List A) (k : ℕ) : Type 0 where
    pub which : A
    pub stands : nth xs k ≡ Some which
    pub is_bad : bad k (leaves step s (before k xs)) which ≡ true

  module _ (s : S) (xs : List A) where
    from_hit : (k : ℕ) → HitFrom 1 s xs k → Hit s xs k
    from_hit k h =
        let n : k ≡ suc h.off = omega (arith, h.far) in
        record { which = h.which; stands = ap (nth xs) n ∙ h.stands; is_bad = ap (λ j. bad k (leaves step s (before j xs)) h.which) n ∙ h.is_bad }

    hit_from : (k : ℕ) → Hit s xs k → HitFrom 1 s xs k
    hit_from k h = go k refl h.stands h.is_bad
      where
        go : (n : ℕ) → k ≡ n → nth xs n ≡ Some h.which → bad k (leaves step s (before n xs)) h.which ≡ true → HitFrom 1 s xs k
        go zero e p t = absurd (none-some h.which p)
        go (suc n) e p t = record { off = n; which = h.which; far = omega arith; stands = p; is_bad = t }

    pub scan_finds : Finds (Hit s xs) (scan bad step 1 s xs)
    scan_finds = finds_iff (HitFrom 1 s xs) (Hit s xs) from_hit hit_from (scan bad step 1 s xs) (from_finds 1 s xs)

    pub least_clear : (k : ℕ) → Least (Hit s xs) k → scan bad step 1 s (before k xs) ≡ None
    least_clear zero h = refl
    least_clear (suc o) h = from_clear 1 s xs o (λ j l g. h.below j (omega arith) (from_hit j g))
