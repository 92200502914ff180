-- Exact layouts of numbers, of things that pass a test, of several things, of one thing after another.
use Prim.Native.Nat.{ℕ, zero, suc, ◌+◌, ◌*◌, ◌≤◌, ◌<◌}
use mathlib.Core.List.{List, [], ◌∷◌, ◌++◌, append_assoc}
use Rattle.std.specs.Prelude.{Bool, true, ◌≡◌}
use Rattle.std.proofs.Math.Path.{refl, ap, sym, subst₂}
use Rattle.std.proofs.Common.{ap₂, ◌∙◌, subst, arith}
use Rattle.std.proofs.Math.ListN.{length, drop, length-append}
use Rattle.lists.specs.Choice.{pick, cut, clash}
use Rattle.octets.specs.Head.{Bytes, bytes_none, bytes_join, Stands, stands_join, behind}
use Rattle.number.specs.Groups.{groups, number_limit}
use Rattle.number.specs.Reading.{Read, got, fault, and_then, read_number, below, many, counted}
use Rattle.number.specs.Reading.Laws.{cut_got, then_got}
use Rattle.number.specs.Reading.Numbers.{read_back, read_form, below_back, below_inside}
use Rattle.number.specs.Layout.{flat, listed, Exact}
use Rattle.lists.specs.All.{All}

-- ── one behind the other: the bytes of two lists, how many there are at most and at least ──
pub flat_append : {A : Type 0} (code : A → List ℕ) (l m : List A) → flat code (l ++ m) ≡ flat code l ++ flat code m
flat_append code [] m = refl
flat_append code (x ∷ xs) m = ap (λ (l : List ℕ). code x ++ l) (flat_append code xs m) ∙ sym (append_assoc (code x) (flat code xs) (flat code m))

pub flat_short : {A : Type 0} (code : A → List ℕ) (c : ℕ) (xs : List A) → All (λ x. length (code x) ≤ c) xs → length (flat code xs) ≤ c * length xs
flat_short code c [] a = omega arith
flat_short code c (x ∷ xs) a =
    let r = flat_short code c xs a.1 in
    let e : c * suc (length xs) ≡ c + c * length xs = omega arith in
    omega (arith, r, e, a.0, length-append (code x) (flat code xs))

-- each takes a byte at least
pub flat_long : {A : Type 0} (code : A → List ℕ) → ((x : A) → 0 < length (code x)) → (xs : List A) → length xs ≤ length (flat code xs)
flat_long code some [] = omega arith
flat_long code some (x ∷ xs) = omega (arith, flat_long code some xs, some x, length-append (code x) (flat code xs))

pub flat_bytes : {A : Type 0} (code : A → List ℕ) → ((x : A) → Bytes (code x)) → (xs : List A) → Bytes (flat code xs)
flat_bytes code b [] = bytes_none
flat_bytes code b (x ∷ xs) = bytes_join (code x) (flat code xs) (b x) (flat_bytes code b xs)

-- a number below n
pub below_exact : (file : List ℕ) → Bytes file → (n : ℕ) → Exact file (below file n) (λ v. (v < n) × (v < number_limit)) groups
below_exact file bytes n = record {
  back = λ v at rest good there. below_back file n at v rest good.0 good.1 there;
  form = λ v at e h. let i = below_inside file n at bytes v e h in ((i.small, i.range), i.stands);
}

-- a number that a file can hold
pub number_exact : (file : List ℕ) → Bytes file → Exact file (read_number file) (λ v. v < number_limit) groups
number_exact file bytes = record {
  back = λ v at rest small there. read_back file at v rest small there;
  form = λ v at e h. read_form file bytes at v e h;
}

-- the same condition in other words
pub exact_as :
    {A : Type 0} (file : List ℕ) (p : ℕ → Read A) (Good Fine : A → Type 0) (code : A → List ℕ) → Exact file p Good code
    → ((x : A) → Fine x → Good x) → ((x : A) → Good x → Fine x) → Exact file p Fine code
exact_as file p Good Fine code exact there back = record {
  back = λ x at rest fine h. exact.back x at rest (there x fine) h;
  form = λ x at e h. let f = exact.form x at e h in (back x f.0, f.1);
}

-- ── several ──
module _ {A : Type 0} (file : List ℕ) (p : ℕ → Read A) (Good : A → Type 0) (code : A → List ℕ) where
  module _ (back : (x : A) (at : ℕ) (rest : List ℕ) → Good x → drop at file ≡ code x ++ rest → p at ≡ got x (at + length (code x))) where
    pub many_back : (xs : List A) (at : ℕ) (rest : List ℕ) → All Good xs → drop at file ≡ flat code xs ++ rest → many p (length xs) at ≡ got xs
        (at + length (flat code xs))
    unfolding many
    many_back [] at rest good there = ap (got []) (omega arith)
    many_back (x ∷ xs) at rest good there =
        let e : drop at file ≡ code x ++ (flat code xs ++ rest) = there ∙ append_assoc (code x) (flat code xs) rest in
        let len : at + length (code x) + length (flat code xs) ≡ at + length (code x ++ flat code xs) =
        omega (arith, length-append (code x) (flat code xs)) in
        then_got (p at) _ (back x at _ good.0 e)
        ∙ then_got (many p (length xs) (at + length (code x))) _
        (many_back xs (at + length (code x)) rest good.1 (behind file at (code x) (flat code xs ++ rest) e))
        ∙ ap (got (x ∷ xs)) len

  module _ (form : (x : A) (at e : ℕ) → p at ≡ got x e → Good x × Stands file at (code x) e) where
    pub many_form : (n : ℕ) (xs : List A) (at e : ℕ) → many p n at ≡ got xs e → ((length xs ≡ n) × All Good xs) × Stands file at (flat code xs) e
    unfolding many
    many_form zero xs at e h =
        let a : [] ≡ xs = cc in
        let b : at ≡ e = cc in
        subst₂ (λ (ys : List A) (d : ℕ). ((length ys ≡ 0) × All Good ys) × Stands file at (flat code ys) d) a b
        ((refl, tt), record { ends = omega arith; there = refl })
    many_form (suc n) xs at e h =
        cut_got (p at) _ h (λ y d hy h. cut_got (many p n d) _ h (λ ys c hys h.
        let a : y ∷ ys ≡ xs = cc in
        let b : c ≡ e = cc in
        let f = form y at d hy in
        let g = many_form n ys d c hys in
        subst₂ (λ (zs : List A) (k : ℕ). ((length zs ≡ suc n) × All Good zs) × Stands file at (flat code zs) k) a b
        ((ap suc g.0.0, (f.0, g.0.1)), stands_join f.1 g.1)))

module _ {A : Type 0} (file : List ℕ) (p : ℕ → Read A) (Good : A → Type 0) (code : A → List ℕ) (exact : Exact file p Good code) where
  -- those that pass a test
  pub test_exact :
      (q : A → Bool)
      → Exact file (λ at. and_then (p at) (λ x e. pick (q x) (got x e) fault)) (λ x. Good x × (q x ≡ true)) code
  test_exact q = record {
    back = λ x at rest good there.
        then_got (p at) _ (exact.back x at rest good.0 there)
        ∙ ap (λ (b : Bool). pick b (got x (at + length (code x))) fault) good.1;
    form = λ x at e h. cut_got (p at) _ h (λ y d r h. cut _ _ _ (q y) h
        (λ t h. let a : y ≡ x = cc in let b : d ≡ e = cc in
        let f = exact.form x at e (r ∙ ap₂ got a b) in
        ((f.0, sym (ap q a) ∙ t), f.1))
        (λ t h. clash (cc)));
  }

  pub many_exact : (n : ℕ) → Exact file (many p n) (λ xs. (length xs ≡ n) × All Good xs) (flat code)
  many_exact n = record {
    back = λ xs at rest good there. ap (λ (k : ℕ). many p k at) (sym good.0) ∙ many_back file p Good code exact.back xs at rest good.1 there;
    form = λ xs at e h. many_form file p Good code exact.form n xs at e h;
  }

  -- a count and that many
  pub counted_exact :
      Bytes file → (limit : ℕ) → limit < number_limit → Exact file (counted file limit p) (λ xs. (length xs ≤ limit) × All Good xs) (listed code)
  unfolding counted
  counted_exact bytes limit small = record {
    back = λ xs at rest good there.
        let n = groups (length xs) in
        let e : drop at file ≡ n ++ (flat code xs ++ rest) = there ∙ append_assoc n (flat code xs) rest in
        let len : at + length n + length (flat code xs) ≡ at + length (n ++ flat code xs) = omega (arith, length-append n (flat code xs)) in
        let l : length xs ≤ limit = good.0 in
        then_got (below file (limit + 1) at) _ (below_back file (limit + 1) at (length xs) _ (omega arith) (omega arith) e)
        ∙ many_back file p Good code exact.back xs (at + length n) rest good.1 (behind file at n (flat code xs ++ rest) e)
        ∙ ap (got xs) len;
    form = λ xs at e h. cut_got (below file (limit + 1) at) _ h (λ n d hn h.
        let i = below_inside file (limit + 1) at bytes n d hn in
        let f = many_form file p Good code exact.form n xs d e h in
        let c : n ≡ length xs = sym f.0.0 in
        ((omega (arith, i.small, f.0.0), f.0.1), stands_join (subst (λ (k : ℕ). Stands file at (groups k) d) c i.stands) f.1));
  }

module _ {A B C : Type 0} (file : List ℕ) (p : ℕ → Read A) (Good : A → Type 0) (code : A → List ℕ) (exact : Exact file p Good code)
    (q : A → ℕ → Read B) (Then : A → B → Type 0) (codes : B → List ℕ) (exacts : (x : A) → Good x → Exact file (q x) (Then x) codes)
    (both : A → B → C) (one : C → A) (two : C → B) (split : (z : C) → both (one z) (two z) ≡ z)
    (first : (x : A) (y : B) → one (both x y) ≡ x) (second : (x : A) (y : B) → two (both x y) ≡ y) where
  -- one thing after another: the second may depend on the first
  abbrev pub reader : ℕ → Read C
  reader at = and_then (p at) (λ x e. and_then (q x e) (λ y f. got (both x y) f))

  then_back :
      (z : C) (at : ℕ) (rest : List ℕ) → Good (one z) × Then (one z) (two z) → drop at file ≡ (code (one z) ++ codes (two z)) ++ rest
      → reader at ≡ got z (at + length (code (one z) ++ codes (two z)))
  then_back z at rest good there =
      let x : A = one z in
      let y : B = two z in
      let e : drop at file ≡ code x ++ (codes y ++ rest) = there ∙ append_assoc (code x) (codes y) rest in
      let len : at + length (code x) + length (codes y) ≡ at + length (code x ++ codes y) =
      omega (arith, length-append (code x) (codes y)) in
      then_got (p at) _ (exact.back x at _ good.0 e)
      ∙ then_got (q x (at + length (code x))) _
      ((exacts x good.0).back y (at + length (code x)) rest good.1 (behind file at (code x) (codes y ++ rest) e))
      ∙ ap₂ got (split z) len

  then_form :
      (z : C) (at e : ℕ) → reader at ≡ got z e → (Good (one z) × Then (one z) (two z)) × Stands file at (code (one z) ++ codes (two z)) e
  then_form z at e h =
      cut_got (p at) _ h (λ x d hx h. cut_got (q x d) _ h (λ y c hy h.
      let a : both x y ≡ z = cc in
      let b : c ≡ e = cc in
      let u : x ≡ one z = sym (first x y) ∙ ap one a in
      let v : y ≡ two z = sym (second x y) ∙ ap two a in
      let f = exact.form x at d hx in
      let g = (exacts x f.0).form y d c hy in
      subst (λ (k : ℕ). (Good (one z) × Then (one z) (two z)) × Stands file at (code (one z) ++ codes (two z)) k) b
      (subst₂ (λ (i : A) (j : B). (Good i × Then i j) × Stands file at (code i ++ codes j) c) u v
      ((f.0, g.0), stands_join f.1 g.1))))

  pub then_exact : Exact file reader (λ z. Good (one z) × Then (one z) (two z)) (λ z. code (one z) ++ codes (two z))
  then_exact = record { back = then_back; form = then_form }
