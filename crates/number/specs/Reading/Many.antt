-- n things one after another: one more, and none. Said once for every list of the files.
use Prim.Native.Nat.{ℕ, zero, suc, ◌+◌, ◌≤◌, ◌<◌}
use mathlib.Core.List.{List, [], ◌∷◌, ◌++◌}
use Rattle.std.specs.Prelude.{Bool, false, ◌||◌, ◌≡◌, Some, None}
use Rattle.std.proofs.Math.Path.{refl, ap, sym}
use Rattle.std.proofs.Common.{ap₂, ◌∙◌, add-one}
use native.Mathlib.Omega.{arith}
use Rattle.std.proofs.Math.ListN.{length}
use Rattle.number.specs.Reading.{Read, got, fault, and_then, many, seen, below, counted}
use Rattle.lists.specs.Lists.{any_by}
use Rattle.lists.specs.Lists.Laws.{any_snoc}
use Rattle.number.specs.Reading.Laws.{cut_got, then_got, then_fault, then_same, then_then, then_ext, cut_seen, cut_fault, then_same_at}

module _ {A : Type 0} (p : ℕ → Read A) where
  pub many_cons : (n at e f : ℕ) (x : A) (xs : List A) → p at ≡ got x e → many p n e ≡ got xs f → many p (suc n) at ≡ got (x ∷ xs) f
  unfolding many
  many_cons n at e f x xs h k = then_got (p at) _ h ∙ then_got (many p n e) _ k

  -- one more
  pub many_snoc : (i at₀ at e : ℕ) (xs : List A) (x : A) → many p i at₀ ≡ got xs at → p at ≡ got x e → many p (suc i) at₀ ≡ got (xs ++ (x ∷ [])) e
  unfolding many
  many_snoc zero at₀ at e xs x h k =
      let a : at₀ ≡ at = cc in
      let n : [] ≡ xs = cc in
      many_cons zero at₀ e e x [] (rw a k) refl ∙ ap (λ (l : List A). got (l ++ (x ∷ [])) e) n
  many_snoc (suc i) at₀ at e xs x h k =
      cut_got (p at₀) _ h (λ y d hy h'. cut_got (many p i d) _ h' (λ ys c hys h''.
      let n : y ∷ ys ≡ xs = cc in
      let a : c ≡ at = cc in
      many_cons (suc i) at₀ d e y (ys ++ (x ∷ [])) hy (many_snoc i d c e ys x hys (rw a k)) ∙ ap (λ (l : List A). got (l ++ (x ∷ [])) e) n))

  -- none here, none at all
  pub many_stop : (i n at₀ at : ℕ) (xs : List A) → many p i at₀ ≡ got xs at → p at ≡ fault → i < n → many p n at₀ ≡ fault
  unfolding many
  many_stop i zero at₀ at xs h k l = absurd (omega arith)
  many_stop zero (suc n) at₀ at xs h k l =
      let a : at₀ ≡ at = cc in
      then_fault (p at₀) _ (rw a k)
  many_stop (suc i) (suc n) at₀ at xs h k l =
      cut_got (p at₀) _ h (λ y d hy h'. cut_got (many p i d) _ h' (λ ys c hys h''.
      let a : c ≡ at = cc in
      then_got (p at₀) _ hy ∙ then_fault (many p n d) _ (many_stop i n d c ys hys (rw a k) (omega arith))))

  -- the thing of number i: where it stands, and that it is what the whole reading has there
  pub record Nth (n at₀ i : ℕ) (all : List A) : Type 0 where
    pub front : List A
    pub item : A
    pub back : List A
    pub place : ℕ
    pub next : ℕ
    pub whole : all ≡ front ++ (item ∷ back)
    pub number : length front ≡ i
    pub before : many p i at₀ ≡ got front place
    pub here : p place ≡ got item next

  pub many_nth : (n at₀ e i : ℕ) (xs : List A) → many p n at₀ ≡ got xs e → i < n → Nth n at₀ i xs
  unfolding many
  many_nth zero at₀ e i xs h l = absurd (omega arith)
  many_nth (suc n) at₀ e zero xs h l =
      cut_got (p at₀) _ h (λ y d hy h'. cut_got (many p n d) _ h' (λ ys c hys h''.
      record { front = []; item = y; back = ys; place = at₀; next = d; whole = (cc); number = refl; before = refl; here = hy }))
  many_nth (suc n) at₀ e (suc i) xs h l =
      cut_got (p at₀) _ h (λ y d hy h'. cut_got (many p n d) _ h' (λ ys c hys h''.
      let r = many_nth n d c i ys hys (omega arith) in
      let w : xs ≡ y ∷ ys = cc in
      record {
        front = y ∷ r.front;
        item = r.item;
        back = r.back;
        place = r.place;
        next = r.next;
        whole = w ∙ ap (λ (l : List A). y ∷ l) r.whole;
        number = ap suc r.number;
        before = many_cons i at₀ d r.place y r.front hy r.before;
        here = r.here;
      }))

  pub many_length : (n at₀ e : ℕ) (xs : List A) → many p n at₀ ≡ got xs e → length xs ≡ n
  unfolding many
  many_length zero at₀ e xs h = let w : [] ≡ xs = cc in sym (ap length w)
  many_length (suc n) at₀ e xs h =
      cut_got (p at₀) _ h (λ y d hy h'. cut_got (many p n d) _ h' (λ ys c hys h''.
      let w : y ∷ ys ≡ xs = cc in
      sym (ap length w) ∙ ap suc (many_length n d c ys hys)))

  -- i and then k
  pub many_split : (k i n at : ℕ) → n ≡ k + i → many p n at ≡ and_then (many p i at) (λ xs e. and_then (many p k e) (λ ys f. got (xs ++ ys) f))
  unfolding many
  many_split k zero n at h =
      let m : n ≡ k = omega arith in
      ap (λ (j : ℕ). many p j at) m ∙ sym (then_same (many p k at))
  many_split k (suc i) zero at h = absurd (omega arith)
  many_split k (suc i) (suc n) at h =
      then_ext (p at) _ _ (λ x e. ap (λ (r : Read (List A)). and_then r (λ xs f. got (x ∷ xs) f)) (many_split k i n e (omega arith))
      ∙ then_then (many p i e) _ _ ∙ then_ext (many p i e) _ _ (λ xs d. then_then (many p k d) _ _)
      ∙ sym (then_then (many p i e) (λ xs d. got (x ∷ xs) d) _))
      ∙ sym (then_then (p at) _ _)

  -- what code has of a reading of n things: the place behind them, and whether the test hit one
  module _ (q : A → Bool) where
    pub walk_more : (i at₀ at e : ℕ) (b c : Bool) → seen (any_by q) (many p i at₀) ≡ Some (at, b) → seen q (p at) ≡ Some (e, c) → seen (any_by q)
        (many p (i + 1) at₀)
        ≡ Some (e, b || c)
    walk_more i at₀ at e b c h k =
        rw add-one (cut_seen (any_by q) (many p i at₀) h (λ xs g hb. cut_seen q (p at) k (λ x g' hc.
        ap (seen (any_by q)) (many_snoc i at₀ at e xs x g g') ∙ ap (λ (d : Bool). Some (e, d)) (any_snoc q xs x ∙ ap₂ ◌||◌ hb hc))))

    pub walk_stop : (i n at₀ at : ℕ) (b : Bool) → seen (any_by q) (many p i at₀) ≡ Some (at, b) → seen q (p at) ≡ None → i < n → seen (any_by q)
        (many p n at₀) ≡
        None
    walk_stop i n at₀ at b h k l =
        cut_seen (any_by q) (many p i at₀) h (λ xs g hb. ap (seen (any_by q)) (many_stop i n at₀ at xs g (cut_fault q (p at) k) l))

-- ── readings that go forward, and two that agree from a place on ──
module _ {A : Type 0} (q : ℕ → Read A) (forward : (at : ℕ) (x : A) (e : ℕ) → q at ≡ got x e → at ≤ e) where
  pub many_forward : (n at : ℕ) (xs : List A) (e : ℕ) → many q n at ≡ got xs e → at ≤ e
  unfolding many
  many_forward zero at xs e h = let a : at ≡ e = cc in omega arith
  many_forward (suc n) at xs e h =
      cut_got (q at) _ h (λ y d hy h'. cut_got (many q n d) _ h' (λ ys c hys h''.
      let a : c ≡ e = cc in
      omega (arith, forward at y d hy, many_forward n d ys c hys)))

  pub many_agree : (p : ℕ → Read A) (lo : ℕ) → ((at : ℕ) → lo ≤ at → p at ≡ q at) → (n at : ℕ) → lo ≤ at → many p n at ≡ many q n at
  unfolding many
  many_agree p lo same zero at l = refl
  many_agree p lo same (suc n) at l =
      ap (λ (r : Read A). and_then r (λ x e. and_then (many p n e) (λ xs f. got (x ∷ xs) f))) (same at l)
      ∙ then_same_at (q at) _ _ (λ x e h. ap (λ (r : Read (List A)). and_then r (λ xs f. got (x ∷ xs) f))
      (many_agree p lo same n e (omega (arith, forward at x e h))))

-- a loop that has read j of them and stands at i
module _ {A : Type 0} (p : ℕ → Read A) where
  pub record Came (at j i : ℕ) : Type 0 where
    pub items : List A
    pub there : many p j at ≡ got items i

  pub came_none : (at : ℕ) → Came at 0 at
  unfolding many
  came_none at = record { items = []; there = refl }

  pub came_more : (at j i e : ℕ) (x : A) → Came at j i → p i ≡ got x e → Came at (j + 1) e
  came_more at j i e x c h = record { items = c.items ++ (x ∷ []); there = rw add-one (many_snoc p j at i e c.items x c.there h) }

  pub came_stop : (at j i n : ℕ) → Came at j i → p i ≡ fault → j < n → many p n at ≡ fault
  came_stop at j i n c h l = many_stop p j n at i c.items c.there h l

  module _ (q : A → Bool) where
    pub walk_none : (at : ℕ) → seen (any_by q) (many p 0 at) ≡ Some (at, false)
    unfolding many
    walk_none at = refl

module _ {A : Type 0} (file : List ℕ) (p : ℕ → Read A) (limit at : ℕ) where
  pub counted_got : (n e : ℕ) → below file (limit + 1) at ≡ got n e → counted file limit p at ≡ many p n e
  unfolding counted
  counted_got n e h = then_got (below file (limit + 1) at) _ h

  pub counted_fault : below file (limit + 1) at ≡ fault → counted file limit p at ≡ fault
  unfolding counted
  counted_fault h = then_fault (below file (limit + 1) at) _ h
