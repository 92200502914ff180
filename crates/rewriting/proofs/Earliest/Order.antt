-- Places in order: one of two is lower, a list ascends, and the first of it that passes a test is the lowest that does.
use Rattle.std.specs.Prelude.{◌≡◌, refl, ◌⊎◌, Bool, true, false, List, [], ◌∷◌, ◌++◌, map, ℕ, zero, suc, ◌≤◌, ◌<◌}
use Rattle.std.proofs.Common.{sym, ◌∙◌, ap, ap₂, subst, ⊎_elim, inl, inr, arith}
use mathlib.Core.List.Memᴰ
use Rattle.std.proofs.Common.{Some}
use Rattle.std.proofs.lemmas.Option.{none-some, same_Some}
use Rattle.lists.specs.Choice.{by_order}
use Rattle.lists.specs.Tests.{by_bool, true_false, not_true}
use Rattle.lists.specs.Lists.{◌∈◌, nth, first_by, remove_by}
use Rattle.lists.specs.Lists.Laws.{first_mem, remove_mem, mem_nth, nth_mem}
use Rattle.rewriting.specs.Graph.{Node, Place, same_place}
use Rattle.rewriting.specs.Places.{Placed, placed, placed_all}
use Rattle.rewriting.specs.Places.Laws.{place_eq, placed_node, placed_all_mem}
use Rattle.rewriting.specs.Earliest.{Lower, Lowest}

-- Two places are one, or one is lower, whichever of the two numbers comes first.
compared : (a b : Place) → (a ≡ b) ⊎ (Lower a b ⊎ Lower b a)
compared a b =
    by_order a.node b.node
    (λ n. by_order a.index b.index (λ m. search (inl, inr)) (λ m. search (inl, inr)) (λ m. search (inl, inr)))
    (λ n.
    let o : b.node ≡ a.node = sym n in
    by_order a.index b.index (λ m. search (inl, inr)) (λ m. inl (λ i. record { node = n i; index = m i })) (λ m. search (inl, inr)))
    (λ n.
    by_order a.index b.index
    (λ m. search (inl, inr))
    (λ m. let o : b.index ≡ a.index = sym m in search (inl, inr))
    (λ m. search (inl, inr)))

lower_not : (a b : Place) → Lower a b → Lower b a → ⊥
lower_not a b (inl g) (inl h) = omega arith
lower_not a b (inl g) (inr (n, h)) = omega arith
lower_not a b (inr (m, g)) (inl h) = omega arith
lower_not a b (inr (m, g)) (inr (n, h)) = omega arith

not_itself : (a b : Place) → a ≡ b → Lower a b → ⊥
not_itself a b e low = let z : Lower b b = subst (λ (c : Place). Lower c b) e low in lower_not b b z z

apart : (a b : Place) → Lower a b → same_place a b ≡ false
apart a b low = not_true _ (λ y. not_itself a b (place_eq a b y) low)

apart_back : (a b : Place) → Lower a b → same_place b a ≡ false
apart_back a b low = not_true _ (λ y. not_itself a b (sym (place_eq b a y)) low)

pub lowest_unique : (P : Place → Type 0) (a b : Place) → Lowest P a → Lowest P b → a ≡ b
lowest_unique P a b g h =
    ⊎_elim (λ e. e) (λ o. ⊎_elim (λ l. absurd (h.below a l g.here)) (λ l. absurd (g.below b l h.here)) o) (compared a b)

-- Said in other words, the lowest place is the same.
pub lowest_as : (P Q : Place → Type 0) → ((a : Place) → P a → Q a) → ((a : Place) → Q a → P a) → (a : Place) → Lowest P a → Lowest Q a
lowest_as P Q f g a h = record { here = f a h.here; below = λ b l q. h.below b l (g b q) }

-- ── lists whose elements have places ──
module _ {A : Type 0} (place : A → Place) where
  -- Each is lower than those behind it.
  abbrev pub Ascends : List A → Type 0
  Ascends [] = Unit {0}
  Ascends (x ∷ l) = ((y : A) → y ∈ l → Lower (place x) (place y)) × Ascends l

  pub ascends_both : (l m : List A) → Ascends l → Ascends m → ((x y : A) → x ∈ l → y ∈ m → Lower (place x) (place y)) → Ascends (l ++ m)
  ascends_both [] m g h b = h
  ascends_both (x ∷ l) m g h b = (
    (λ y i. ⊎_elim (λ j. g.0 y j) (λ j. b x y (Memᴰ.head refl) j) (Memᴰ.append_cases l i)),
    ascends_both l m g.1 h (λ s y i j. b s y (Memᴰ.tail i) j),
  )

  -- By numbers.
  pub ascends_nth : (l : List A) → Ascends l → (i j : ℕ) (x y : A) → i < j → nth l i ≡ Some x → nth l j ≡ Some y → Lower (place x) (place y)
  ascends_nth l a zero j x y h p q = absurd (none-some x p)
  ascends_nth l a (suc i) zero x y h p q = absurd (none-some y q)
  ascends_nth [] a (suc i) (suc j) x y h p q = absurd (none-some x p)
  ascends_nth (z ∷ l) a (suc zero) (suc zero) x y h p q = absurd (omega arith)
  ascends_nth (z ∷ l) a (suc zero) (suc (suc j)) x y h p q =
      let e : z ≡ x = same_Some z x p in
      subst (λ (w : A). Lower (place w) (place y)) e (a.0 y (nth_mem l y (suc j) q))
  ascends_nth (z ∷ l) a (suc (suc i)) (suc zero) x y h p q = absurd (omega arith)
  ascends_nth (z ∷ l) a (suc (suc i)) (suc (suc j)) x y h p q = ascends_nth l a.1 (suc i) (suc j) x y (omega arith) p q

  pub nth_ascends :
      (l : List A) → ((i j : ℕ) (x y : A) → i < j → nth l i ≡ Some x → nth l j ≡ Some y → Lower (place x) (place y)) → Ascends l
  nth_ascends [] h = tt
  nth_ascends (x ∷ l) h = (
    (λ y m. let (k, e) = mem_nth l y m in behind y k e),
    nth_ascends l (λ i j y z b p q. shifted i j y z b p q),
  )
    where
      behind : (y : A) (k : ℕ) → nth l k ≡ Some y → Lower (place x) (place y)
      behind y zero e = absurd (none-some y e)
      behind y (suc k) e = h 1 (suc (suc k)) x y (omega arith) refl e

      shifted : (i j : ℕ) (y z : A) → i < j → nth l i ≡ Some y → nth l j ≡ Some z → Lower (place y) (place z)
      shifted zero j y z b p q = absurd (none-some y p)
      shifted (suc i) zero y z b p q = absurd (none-some z q)
      shifted (suc i) (suc j) y z b p q = h (suc (suc i)) (suc (suc j)) y z (omega arith) p q

  -- Without the first that passes a test, a list still ascends; that one is at no place of what is left, and all others are left.
  module _ (p : A → Bool) where
    pub ascends_remove : (l : List A) → Ascends l → Ascends (remove_by p l)
    ascends_remove [] a = tt
    ascends_remove (x ∷ l) a = by_bool (p x) (λ y. rw y a.1) (λ n. rw n ((λ u m. a.0 u (remove_mem p l u m)), ascends_remove l a.1))

    pub removed_apart :
        (l : List A) (t u : A) → Ascends l → first_by p l ≡ Some t → u ∈ remove_by p l → same_place (place u) (place t) ≡ false
    removed_apart [] t u a e m = absurd (Memᴰ.not-nil m)
    removed_apart (x ∷ l) t u a e m =
        by_bool (p x)
        (λ y.
        let i : x ≡ t = same_Some x t (rw y at e) in
        subst (λ (v : A). same_place (place u) (place v) ≡ false) i (apart_back (place x) (place u) (a.0 u (rw y at m))))
        (λ n.
        let f : first_by p l ≡ Some t = rw n at e in
        ⊎_elim
        (λ (j : u ≡ x). subst (λ (v : A). same_place (place v) (place t) ≡ false) (sym j) (apart (place x) (place t) (a.0 t (first_mem p l t f))))
        (λ o. removed_apart l t u a.1 f o)
        (Memᴰ.cases_cons (rw n at m)))

    -- The first that passes a test is the lowest that does.
    pub first_lowest : (l : List A) (t u : A) → Ascends l → first_by p l ≡ Some t → u ∈ l → p u ≡ true → Lower (place u) (place t) → ⊥
    first_lowest [] t u a e m h low = Memᴰ.not-nil m
    first_lowest (x ∷ l) t u a e m h low =
        by_bool (p x)
        (λ y.
        let i : x ≡ t = same_Some x t (rw y at e) in
        let z : Lower (place u) (place x) = subst (λ (v : A). Lower (place u) (place v)) (sym i) low in
        ⊎_elim
        (λ (j : u ≡ x). not_itself (place u) (place x) (ap place j) z)
        (λ n. lower_not (place u) (place x) z (a.0 u n))
        (Memᴰ.cases_cons m))
        (λ n.
        ⊎_elim
        (λ (j : u ≡ x). true_false (p x) (ap p (sym j) ∙ h) n)
        (λ k. first_lowest l t u a.1 (rw n at e) k h low)
        (Memᴰ.cases_cons m))

pub kept_mem :
    {A : Type 0} (p : A → Bool) (l : List A) (t u : A) → first_by p l ≡ Some t → u ∈ l → (u ≡ t → ⊥) → u ∈ remove_by p l
kept_mem p [] t u e m d = m
kept_mem p (x ∷ l) t u e m d =
    by_bool (p x)
    (λ y.
    let i : x ≡ t = same_Some x t (rw y at e) in
    rw y (⊎_elim (λ (j : u ≡ x). absurd (d (j ∙ i))) (λ o. o) (Memᴰ.cases_cons m)))
    (λ n.
    rw n (⊎_elim (λ (j : u ≡ x). Memᴰ.head j) (λ o. Memᴰ.tail (kept_mem p l t u (rw n at e) o d)) (Memᴰ.cases_cons m)))

-- ── the places alone ──
abbrev itself : Place → Place
itself a = a

pub mem_map : {A : Type 0} (place : A → Place) (l : List A) (y : A) → y ∈ l → place y ∈ map place l
mem_map place [] y m = absurd (Memᴰ.not-nil m)
mem_map place (x ∷ l) y m =
    ⊎_elim (λ (e : y ≡ x). Memᴰ.head (ap place e)) (λ n. Memᴰ.tail (mem_map place l y n)) (Memᴰ.cases_cons m)

pub map_mem : {A : Type 0} (place : A → Place) (l : List A) (a : Place) → a ∈ map place l → (x : A) × (x ∈ l) × (place x ≡ a)
map_mem place [] a m = absurd (Memᴰ.not-nil m)
map_mem place (x ∷ l) a m =
    ⊎_elim
    (λ (e : a ≡ place x). (x, Memᴰ.head refl, sym e))
    (λ n. let (y, i, e) = map_mem place l a n in (y, Memᴰ.tail i, e))
    (Memᴰ.cases_cons m)

pub map_ascends : {A : Type 0} (place : A → Place) (l : List A) → Ascends place l → Ascends itself (map place l)
map_ascends place [] a = tt
map_ascends place (x ∷ l) a = (
  (λ b m. let (y, i, e) = map_mem place l b m in subst (λ (c : Place). Lower (place x) c) e (a.0 y i)),
  map_ascends place l a.1,
)

pub ascends_map : {A : Type 0} (place : A → Place) (l : List A) → Ascends itself (map place l) → Ascends place l
ascends_map place [] a = tt
ascends_map place (x ∷ l) a = ((λ y m. a.0 (place y) (mem_map place l y m)), ascends_map place l a.1)

-- There is one list of given places that ascends.
pub ascends_one :
    (l m : List Place) → Ascends itself l → Ascends itself m → ((a : Place) → a ∈ l → a ∈ m) → ((a : Place) → a ∈ m → a ∈ l) → l ≡ m
ascends_one [] [] g h s t = refl
ascends_one [] (b ∷ m) g h s t = absurd (Memᴰ.not-nil (t b (Memᴰ.head refl)))
ascends_one (a ∷ l) [] g h s t = absurd (Memᴰ.not-nil (s a (Memᴰ.head refl)))
ascends_one (a ∷ l) (b ∷ m) g h s t =
    let e : a ≡ b = first_one in
    ap₂ (λ (c : Place) (k : List Place). c ∷ k) e
    (ascends_one l m g.1 h.1
    (λ c i. ⊎_elim (λ (j : c ≡ b). absurd (not_itself a c (e ∙ sym j) (g.0 c i))) (λ j. j) (Memᴰ.cases_cons (s c (Memᴰ.tail i))))
    (λ c i. ⊎_elim (λ (j : c ≡ a). absurd (not_itself b c (sym e ∙ sym j) (h.0 c i))) (λ j. j) (Memᴰ.cases_cons (t c (Memᴰ.tail i)))))
  where
    first_one : a ≡ b
    first_one =
        ⊎_elim (λ e. e) (λ o. ⊎_elim
        (λ low. ⊎_elim (λ (e : a ≡ b). e) (λ i. absurd (lower_not a b low (h.0 a i))) (Memᴰ.cases_cons (s a (Memᴰ.head refl))))
        (λ low. ⊎_elim (λ (e : b ≡ a). sym e) (λ i. absurd (lower_not b a low (g.0 b i))) (Memᴰ.cases_cons (t b (Memᴰ.head refl)))) o)
        (compared a b)

-- ── placed facts ──
module _ {Fact : Type 0} where
  abbrev pub place_of : Placed Fact → Place
  place_of t = t.place

  index_high : (k i : ℕ) (fs : List Fact) (t : Placed Fact) → t ∈ placed k i fs → i ≤ t.place.index
  index_high k i [] t m = absurd (Memᴰ.not-nil m)
  index_high k i (f ∷ fs) t m =
      ⊎_elim
      (λ e. let z = ap (λ (u : Placed Fact). u.place.index) e in omega arith)
      (λ n. omega (arith, index_high k (suc i) fs t n))
      (Memᴰ.cases_cons m)

  pub placed_ascends : (k i : ℕ) (fs : List Fact) → Ascends place_of (placed k i fs)
  placed_ascends k i [] = tt
  placed_ascends k i (f ∷ fs) = (
    (λ u m.
        let n : k ≡ u.place.node = sym (placed_node k (suc i) fs u m) in
        let l : i < u.place.index = index_high k (suc i) fs u m in
        search (inl, inr)),
    placed_ascends k (suc i) fs,
  )

  pub all_ascends : (part : Node Fact → List Fact) (k : ℕ) (xs : List (Node Fact)) → Ascends place_of (placed_all part k xs)
  all_ascends part k [] = tt
  all_ascends part k (x ∷ xs) =
      ascends_both place_of (placed k 1 (part x)) (placed_all part (suc k) xs) (placed_ascends k 1 (part x)) (all_ascends part (suc k) xs)
      (λ t u m n.
      let a = placed_node k 1 (part x) t m in
      let (j, b, _) = placed_all_mem part (suc k) xs u n in
      inl (omega arith))
