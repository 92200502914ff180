-- The laws of the order, at a place and as a whole.
use Rattle.std.specs.Prelude.{ℕ, ◌+◌, ◌≤◌, ◌<◌, List, [], ◌∷◌, ◌≡◌, refl, ◌≢◌, Bool, true, false, ◌&&◌, length, get_or, drop, eqb}
use Rattle.std.proofs.Common.{ap, ap₂, sym, ◌∙◌, arith, drop_of_length-le, lt-ltb, le-ltb}
use Rattle.lists.specs.Choice.{cut_lt, by_order, clash}
use Rattle.lists.specs.Tests.{true_false, eqb_eq, eqb_self}
use Rattle.octets.specs.Head.{head_of}
use Rattle.std.specs.declared.cmp.Ordering.{Ordering}
use Rattle.std.specs.declared.cmp.Ordering.TheVariants.{Less, Equal, Greater}
use Rattle.octets.specs.Compare.{compare_bytes, is_equal, flipped}
use Rattle.std.specs.Ordering.{nat_cmp, is_eq}
use Rattle.std.specs.Cmp.{nat_cmp_is, unsigned_ties}
use Rattle.std.specs.Cmp.Lexicographic.{slice_cmp, pointwise, lists_ties}

module _ (a b : List ℕ) (i : ℕ) where
  abbrev pub From : Ordering
  From = compare_bytes (drop i a) (drop i b)

  module _ (ia : i < length a) (ib : i < length b) where
    pub less_at : get_or a i 0 < get_or b i 0 → From ≡ Less
    less_at h = rw (head_of a i ia, head_of b i ib) (simp (lt-ltb _ _ h))

    pub greater_at : get_or b i 0 < get_or a i 0 → From ≡ Greater
    greater_at h = rw (head_of a i ia, head_of b i ib) (simp (le-ltb (get_or a i 0) (get_or b i 0) (omega arith), lt-ltb _ _ h))

    pub same_at : get_or b i 0 ≤ get_or a i 0 → get_or a i 0 ≤ get_or b i 0 → From ≡ compare_bytes (drop (i + 1) a) (drop (i + 1) b)
    same_at h l = rw (head_of a i ia, head_of b i ib) (simp (le-ltb _ _ h, le-ltb _ _ l))

  pub b_ends : i < length a → length b ≤ i → From ≡ Greater
  b_ends h l = rw (head_of a i h, drop_of_length-le b l)

  pub a_ends : length a ≤ i → i < length b → From ≡ Less
  a_ends l h = rw (drop_of_length-le a l, head_of b i h)

  pub both_end : length a ≤ i → length b ≤ i → From ≡ Equal
  both_end l h = rw (drop_of_length-le a l, drop_of_length-le b h)

-- the other way round
pub compare_flip : (a b : List ℕ) → compare_bytes b a ≡ flipped (compare_bytes a b)
compare_flip [] [] = refl
compare_flip [] (y ∷ b) = refl
compare_flip (x ∷ a) [] = refl
compare_flip (x ∷ a) (y ∷ b) =
    by_order x y
    (λ h. simp (lt-ltb x y h, le-ltb y x (omega arith)))
    (λ h. simp (le-ltb x y (omega arith), le-ltb y x (omega arith)) (compare_flip a b))
    (λ h. simp (le-ltb x y (omega arith), lt-ltb y x h))

pub compare_refl : (a : List ℕ) → compare_bytes a a ≡ Equal
compare_refl [] = refl
compare_refl (x ∷ a) = simp (le-ltb x x (omega arith)) (compare_refl a)

-- equal only what is the same
pub compare_same : (a b : List ℕ) → compare_bytes a b ≡ Equal → a ≡ b
compare_same [] [] e = refl
compare_same [] (y ∷ b) e = clash (cc)
compare_same (x ∷ a) [] e = clash (cc)
compare_same (x ∷ a) (y ∷ b) e =
    cut_lt _ _ _ x y e
    (λ h e. clash (cc))
    (λ h e. cut_lt _ _ _ y x e
    (λ h e. clash (cc))
    (λ l e. ap₂ ◌∷◌ (omega arith) (compare_same a b e)))

-- at the first elements
first :
    {C : Type 0} (x y : ℕ) (a b : List ℕ) → compare_bytes (x ∷ a) (y ∷ b) ≡ Less
    → (x < y → C) → (x ≡ y → compare_bytes a b ≡ Less → C) → C
first x y a b e f g =
    cut_lt _ _ _ x y e (λ h e. f h)
    (λ h e. cut_lt _ _ _ y x e (λ h e. clash (cc)) (λ l e. g (omega arith) e))

-- a before b, b before c: a before c
pub compare_trans : (a b c : List ℕ) → compare_bytes a b ≡ Less → compare_bytes b c ≡ Less → compare_bytes a c ≡ Less
compare_trans [] [] c p q = clash (cc)
compare_trans [] (y ∷ b) [] p q = clash (cc)
compare_trans [] (y ∷ b) (z ∷ c) p q = refl
compare_trans (x ∷ a) [] c p q = clash (cc)
compare_trans (x ∷ a) (y ∷ b) [] p q = clash (cc)
compare_trans (x ∷ a) (y ∷ b) (z ∷ c) p q =
    first x y a b p
    (λ h. first y z b c q
    (λ k. simp (lt-ltb x z (omega arith)))
    (λ k q. simp (lt-ltb x z (omega arith))))
    (λ h p. first y z b c q
    (λ k. simp (lt-ltb x z (omega arith)))
    (λ k q. simp (le-ltb x z (omega arith), le-ltb z x (omega arith)) (compare_trans a b c p q)))

-- ── whether they are the same: the bytes before i, and those from i on ──
pub other_lengths : (a b : List ℕ) → length a ≢ length b → false ≡ is_equal (compare_bytes a b)
other_lengths a b n = go (compare_bytes a b) refl
  where
    go : (o : Ordering) → compare_bytes a b ≡ o → false ≡ is_equal o
    go Less e = refl
    go Equal e = absurd (n (ap length (compare_same a b e)))
    go Greater e = refl

module _ (a b : List ℕ) where
  abbrev pub SameSoFar : Bool → ℕ → Type 0
  SameSoFar same i = (same && is_equal (From a b i)) ≡ is_equal (compare_bytes a b)

  pub so_far_none : SameSoFar true 0
  so_far_none = refl

  pub so_far_more : (same : Bool) (i : ℕ) → i < length a → i < length b → SameSoFar same i → SameSoFar (same && eqb (get_or a i 0) (get_or b i 0)) (i + 1)
  so_far_more same i ia ib h = join same (eqb x y) (is_equal (From a b i)) (is_equal (From a b (i + 1))) (equal_at (eqb x y) refl) h
    where
      x : ℕ
      x = get_or a i 0

      y : ℕ
      y = get_or b i 0

      equal_at : (e : Bool) → eqb x y ≡ e → is_equal (From a b i) ≡ (e && is_equal (From a b (i + 1)))
      equal_at true e = let q : x ≡ y = eqb_eq x y e in ap is_equal (same_at a b i ia ib (omega arith) (omega arith))
      equal_at false e =
          by_order x y (λ l. ap is_equal (less_at a b i ia ib l)) (λ q. true_false (eqb x y) (ap (eqb x) (sym q) ∙ eqb_self x) e)
          (λ l. ap is_equal (greater_at a b i ia ib l))

      join : (s e f r : Bool) → f ≡ (e && r) → (s && f) ≡ is_equal (compare_bytes a b) → ((s && e) && r) ≡ is_equal (compare_bytes a b)
      join true e f r q h = sym q ∙ h
      join false e f r q h = h

  pub so_far_all : (same : Bool) (i : ℕ) → length a ≤ i → length b ≤ i → SameSoFar same i → same ≡ is_equal (compare_bytes a b)
  so_far_all same i l k h = whole same (From a b i) (both_end a b i l k) h
    where
      whole : (s : Bool) (o : Ordering) → o ≡ Equal → (s && is_equal o) ≡ is_equal (compare_bytes a b) → s ≡ is_equal (compare_bytes a b)
      whole true o e h = sym (ap is_equal e) ∙ h
      whole false o e h = h

-- it is the library's order of slices, and equality of slices is its test
pub compare_is_cmp : (a b : List ℕ) → slice_cmp nat_cmp a b ≡ compare_bytes a b
compare_is_cmp [] [] = refl
compare_is_cmp [] (y ∷ b) = refl
compare_is_cmp (x ∷ a) [] = refl
compare_is_cmp (x ∷ a) (y ∷ b) =
    by_order x y
    (λ h. rw (← nat_cmp_is x y Less h) (simp (lt-ltb x y h)))
    (λ h. rw (← nat_cmp_is x y Equal h) (simp (le-ltb x y (omega arith), le-ltb y x (omega arith)) (compare_is_cmp a b)))
    (λ h. rw (← nat_cmp_is x y Greater h) (simp (le-ltb x y (omega arith), lt-ltb y x h)))

is_eq_equal : (o : Ordering) → is_eq o ≡ is_equal o
is_eq_equal Less = refl
is_eq_equal Equal = refl
is_eq_equal Greater = refl

pub equal_is_same : (a b : List ℕ) → pointwise eqb a b ≡ is_equal (compare_bytes a b)
equal_is_same a b =
    lists_ties nat_cmp unsigned_ties a b ∙ ap is_eq (compare_is_cmp a b) ∙ is_eq_equal (compare_bytes a b)
