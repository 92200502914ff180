-- The placed facts of a list of nodes are just the facts at its places, each once.
use Rattle.std.specs.Prelude.{◌≡◌, refl, true, List, [], ◌∷◌, ◌++◌, ℕ, zero, suc, ◌+◌, ◌≤◌, eqb, length}
use Rattle.std.proofs.Common.{sym, ◌∙◌, ap, ⊎_elim, arith}
use mathlib.Core.List.Memᴰ
use Rattle.std.specs.Prelude.{Option, Some}
use Rattle.std.proofs.lemmas.Option.{none-some, same_Some}
use Rattle.std.specs.Prelude.{slice_get}
use Rattle.lists.specs.Tests.{bit_le, bit_true, at_most_one, and_split, and_both, eqb_eq, eqb_self}
use Rattle.lists.specs.Lists.{◌∈◌, bit, count_by, nth}
use Rattle.lists.specs.Lists.Laws.{count_append, count_ext, count_pos, count_mem}
use Rattle.lists.specs.Lists.Pairing.{Apart}
use Rattle.rewriting.specs.Facts.{Facts, count}
use Rattle.rewriting.specs.Facts.Laws.{same_right}
use Rattle.rewriting.specs.Graph.{Node, Place, same_place, in_node, fact_at}
use Rattle.rewriting.specs.Places.{Placed, placed, placed_all, count_at, count_placed}

pub place_eq : (a b : Place) → same_place a b ≡ true → a ≡ b
place_eq a b h =
    let (m, n) = and_split (eqb a.node b.node) (eqb a.index b.index) h in
    let p = eqb_eq _ _ m in
    let q = eqb_eq _ _ n in
    λ i. record { node = p i; index = q i }

pub place_self : (a : Place) → same_place a a ≡ true
place_self a = and_both _ _ (eqb_self a.node) (eqb_self a.index)

pub place_sym : (a b : Place) → same_place a b ≡ true → same_place b a ≡ true
place_sym a b h = ap (λ c. same_place b c) (place_eq a b h) ∙ place_self b

module _ {Fact : Type 0} where
  placed_mem : (k i : ℕ) (fs : List Fact) (t : Placed Fact) → t ∈ placed k i fs →
      (j : ℕ) × (t.place.node ≡ k) × (t.place.index ≡ i + j) × (slice_get fs j ≡ Some t.fact)
  placed_mem k i [] t m = absurd (Memᴰ.not-nil m)
  placed_mem k i (f ∷ fs) t m =
      ⊎_elim
      (λ e. (0, ap (λ u. u.place.node) e, (let z = ap (λ u. u.place.index) e in omega arith), ap {B = Option Fact} Some (sym (ap (λ u. u.fact) e))))
      (λ k'. let (j, a, b, c) = placed_mem k (suc i) fs t k' in (suc j, a, omega arith, c))
      (Memᴰ.cases_cons m)

  pub placed_node : (k i : ℕ) (fs : List Fact) (t : Placed Fact) → t ∈ placed k i fs → t.place.node ≡ k
  placed_node k i fs t m = (placed_mem k i fs t m).1

  placed_has : (k i : ℕ) (fs : List Fact) (t : Placed Fact) (j : ℕ) → t.place.node ≡ k → t.place.index ≡ i + j → slice_get fs j ≡ Some t.fact →
      t ∈ placed k i fs
  placed_has k i [] t j a b c = absurd (none-some _ c)
  placed_has k i (f ∷ fs) t zero a b c =
      let n : t.place.index ≡ i = omega arith in
      let g : t.fact ≡ f = sym (same_Some f t.fact c) in
      Memᴰ.head (λ d. record { place = record { node = a d; index = n d }; fact = g d })
  placed_has k i (f ∷ fs) t (suc j) a b c = Memᴰ.tail (placed_has k (suc i) fs t j a (omega arith) c)

  -- The facts of a list behind another.
  pub placed_behind : (k i : ℕ) (l m : List Fact) → placed k i (l ++ m) ≡ placed k i l ++ placed k (i + length l) m
  placed_behind k i [] m = let e : i ≡ i + 0 = omega arith in ap (λ (j : ℕ). placed k j m) e
  placed_behind k i (f ∷ fs) m =
      let e : suc i + length fs ≡ i + suc (length fs) = omega arith in
      ap (λ (l : List (Placed Fact)). record { place = record { node = k; index = i }; fact = f } ∷ l)
      (placed_behind k (suc i) fs m ∙ ap (λ (j : ℕ). placed k (suc i) fs ++ placed k j m) e)

  -- The placed facts of one node.
  pub placed_at : (k : ℕ) (fs : List Fact) (t : Placed Fact) → t ∈ placed k 1 fs → (t.place.node ≡ k) × (nth fs t.place.index ≡ Some t.fact)
  placed_at k fs t m =
      let (j, a, b, c) = placed_mem k 1 fs t m in
      let s : t.place.index ≡ suc j = omega arith in
      (a, rw s c)

  pub placed_of : (k : ℕ) (fs : List Fact) (t : Placed Fact) → t.place.node ≡ k → nth fs t.place.index ≡ Some t.fact → t ∈ placed k 1 fs
  placed_of k fs t a b = here t.place.index refl b
    where
      here : (n : ℕ) → t.place.index ≡ n → nth fs n ≡ Some t.fact → t ∈ placed k 1 fs
      here zero e c = absurd (none-some _ c)
      here (suc n) e c = placed_has k 1 fs t n a (omega arith) c

  module _ (part : Node Fact → List Fact) where
    pub placed_all_mem : (k : ℕ) (xs : List (Node Fact)) (t : Placed Fact) → t ∈ placed_all part k xs →
        (j : ℕ) × (t.place.node ≡ k + j) × (in_node part t.place.index (slice_get xs j) ≡ Some t.fact)
    placed_all_mem k [] t m = absurd (Memᴰ.not-nil m)
    placed_all_mem k (x ∷ xs) t m =
        ⊎_elim
        (λ h. let (a, b) = placed_at k (part x) t h in (0, omega arith, b))
        (λ h. let (j, a, b) = placed_all_mem (suc k) xs t h in (suc j, omega arith, b))
        (Memᴰ.append_cases (placed k 1 (part x)) m)

    placed_all_has : (k : ℕ) (xs : List (Node Fact)) (t : Placed Fact) (j : ℕ) → t.place.node ≡ k + j → in_node part t.place.index (slice_get xs j) ≡ Some
        t.fact →
        t ∈ placed_all part k xs
    placed_all_has k [] t j a b = absurd (none-some _ b)
    placed_all_has k (x ∷ xs) t zero a b = Memᴰ.append_left _ (placed_of k (part x) t (omega arith) b)
    placed_all_has k (x ∷ xs) t (suc j) a b = Memᴰ.append_right (placed k 1 (part x)) (placed_all_has (suc k) xs t j (omega arith) b)

    -- What is placed stands at its place.
    pub placed_stands : (nodes : List (Node Fact)) (t : Placed Fact) → t ∈ placed_all part 1 nodes → fact_at part nodes t.place ≡ Some t.fact
    placed_stands nodes t m =
        let (j, a, b) = placed_all_mem 1 nodes t m in
        let s : t.place.node ≡ suc j = omega arith in
        rw s b

    -- What stands at a place is placed there.
    pub stands_placed : (nodes : List (Node Fact)) (t : Placed Fact) → fact_at part nodes t.place ≡ Some t.fact → t ∈ placed_all part 1 nodes
    stands_placed nodes t h = go t.place.node refl h
      where
        go : (n : ℕ) → t.place.node ≡ n → in_node part t.place.index (nth nodes n) ≡ Some t.fact → t ∈ placed_all part 1 nodes
        go zero e c = absurd (none-some _ c)
        go (suc n) e c = placed_all_has 1 nodes t n (omega arith) c

    placed_once : (a : Place) (k i : ℕ) (fs : List Fact) → count_at a (placed k i fs) ≤ 1
    placed_once a k i [] = omega arith
    placed_once a k i (f ∷ fs) = at_most_one _ _ (bit_le (same_place a (record { node = k; index = i }))) (placed_once a k (suc i) fs) clash
      where
        clash : 1 ≤ bit (same_place a (record { node = k; index = i })) → 1 ≤ count_at a (placed k (suc i) fs) → ⊥
        clash u v =
            let (t, m, e) = count_pos _ _ v in
            let (j, _, b, _) = placed_mem k (suc i) fs t m in
            let p : a.index ≡ i = ap (λ c. c.index) (place_eq a (record { node = k; index = i }) (bit_true _ u)) in
            let q : a.index ≡ t.place.index = ap (λ c. c.index) (place_eq a t.place e) in
            omega arith

    pub placed_all_once : (a : Place) (k : ℕ) (xs : List (Node Fact)) → count_at a (placed_all part k xs) ≤ 1
    placed_all_once a k [] = omega arith
    placed_all_once a k (x ∷ xs) = rw count_append (at_most_one _ _ (placed_once a k 1 (part x)) (placed_all_once a (suc k) xs) clash)
      where
        clash : 1 ≤ count_at a (placed k 1 (part x)) → 1 ≤ count_at a (placed_all part (suc k) xs) → ⊥
        clash u v =
            let (s, l, d) = count_pos _ _ u in
            let (t, m, e) = count_pos _ _ v in
            let (i, b, _, _) = placed_mem k 1 (part x) s l in
            let (j, c, _) = placed_all_mem (suc k) xs t m in
            let p : a.node ≡ s.place.node = ap (λ c. c.node) (place_eq a s.place d) in
            let q : a.node ≡ t.place.node = ap (λ c. c.node) (place_eq a t.place e) in
            omega arith

  -- Where each place stands once, placed facts are apart, by whatever place they are compared.
  pub once_apart : {B : Type 0} (place : B → Place) (ws : List (Placed Fact)) → ((a : Place) → count_at a ws ≤ 1) →
      Apart (λ w e. same_place w.place (place e)) ws
  once_apart place [] once = tt
  once_apart place (w ∷ ws) once = (
    (λ v m e k l.
        let c : count_by (λ t. same_place (place e) t.place) (w ∷ ws) ≤ 1 = once (place e) in
        let p = count_mem (λ t. same_place (place e) t.place) ws v m (place_sym v.place (place e) l) in
        let q : bit (same_place (place e) w.place) ≡ 1 = ap bit (place_sym w.place (place e) k) in
        omega arith),
    once_apart place ws (λ a. let c : count_at a (w ∷ ws) ≤ 1 = once a in omega arith),
  )

module _ (F : Facts) where
  open F use {Fact, same}

  -- Same facts are counted alike.
  pub count_placed_same : (f g : Fact) → same f g ≡ true → (l : List (Placed Fact)) → count_placed F f l ≡ count_placed F g l
  count_placed_same f g h l = count_ext _ _ l (λ a m. same_right F f g a.fact h)

  -- Places do not change how often a fact stands.
  pub placed_count : (f : Fact) (k i : ℕ) (fs : List Fact) → count_placed F f (placed k i fs) ≡ count F f fs
  placed_count f k i [] = refl
  placed_count f k i (g ∷ fs) = omega (arith, placed_count f k (suc i) fs)
