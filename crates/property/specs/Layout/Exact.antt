-- A property file is read exactly: what is within the limits reads back from its bytes, and what reads is within them and stands there.
use Prim.Native.Nat.{ℕ, zero, suc, ◌+◌, max, ◌≤◌, ◌<◌}
use mathlib.Core.List.{List, [], ◌++◌, append_assoc, append-nil}
use Rattle.std.specs.Prelude.{Bool, true, false, ◌↔◌, ◌≡◌, refl, eqb}
use Rattle.std.proofs.Math.Path.{ap, ap₂, sym, subst, subst₂}
use Rattle.std.proofs.Common.{◌∙◌, eq-eqb}
use native.Mathlib.Omega.{arith}
use Rattle.std.proofs.Math.ListN.{length, drop, length-append, drop_of_length-le}
use Rattle.lists.specs.Choice.{pick, cut_lt, cut_eq, clash, by_size}
use Rattle.octets.specs.Head.{Bytes, Stands, stands_join, behind}
use Rattle.number.specs.Groups.{groups, number_limit}
use Rattle.number.specs.Reading.{Read, got, fault, and_then, below}
use Rattle.number.specs.Reading.Laws.{cut_got, then_got}
use Rattle.number.specs.Reading.Numbers.{below_back, below_inside}
use Rattle.number.specs.Layout.{Exact}
use Rattle.property.specs.Figures.{and_tag, exists_tag, every_tag, formula_tags, most_nesting}
use Rattle.property.specs.Formula.{Atom, equal, before, together, action, Formula}
use Rattle.property.specs.Formula.{absurdity, is, isnt, both, either, exists, every}
use Rattle.property.specs.Formula.Limits.{depth, AtomBelow, ScopesBelow, FormulaWithin}
use Rattle.property.specs.Layout.{timed_of, Head, head_of, signed, asserts, paired, quantified}
use Rattle.property.specs.Layout.{encode_head, atom_tag, encode_atom, encode_formula}
use Rattle.property.specs.Layout.{atom_at, scoped_at, body_at, formula_at, property}
use Rattle.property.specs.Layout.Parts.{made_back, made_form, small_limit, Scoped, AtomForm, scoped_exact}
use Rattle.property.specs.Layout.Parts.{equal_back, times_back, action_back, atom_form}

-- ── numbers ──
max_left : (m n : ℕ) {k : ℕ} → suc (max m n) ≤ suc k → m ≤ k
max_left m n h = omega (arith, h)

max_right : (m n : ℕ) {k : ℕ} → suc (max m n) ≤ suc k → n ≤ k
max_right m n h = omega (arith, h)

-- a number is one of two
one_of_two : (P : ℕ → Type 0) (a n : ℕ) → a ≤ n → n ≤ suc a → P a → P (suc a) → P n
one_of_two P a n l k p q =
    by_size n (suc a) (λ m. let e : a ≡ n = omega arith in subst P e p) (λ m. let e : suc a ≡ n = omega arith in subst P e q)

-- ── the bytes of a formula by its tag ──
signed_bytes : (tag : ℕ) (a : Atom) → atom_tag a ≤ tag → tag ≤ suc (atom_tag a) → encode_formula (signed (asserts tag) a) ≡ groups tag ++ encode_atom a
signed_bytes tag (equal t u) l h = one_of_two (λ n. encode_formula (signed (asserts n) (equal t u)) ≡ groups n ++ encode_atom (equal t u)) 1 tag l h refl refl
signed_bytes tag (before i j) l h = one_of_two (λ n. encode_formula (signed (asserts n) (before i j)) ≡ groups n ++ encode_atom (before i j)) 3 tag l h refl refl
signed_bytes tag (together i j) l h =
    one_of_two (λ n. encode_formula (signed (asserts n) (together i j)) ≡ groups n ++ encode_atom (together i j)) 5 tag l h refl refl
signed_bytes tag (action g i) l h = one_of_two (λ n. encode_formula (signed (asserts n) (action g i)) ≡ groups n ++ encode_atom (action g i)) 7 tag l h refl refl

paired_bytes :
    (tag : ℕ) (x y : Formula) → and_tag ≤ tag → tag < exists_tag
    → encode_formula (paired (eqb tag and_tag) x y) ≡ groups tag ++ (encode_formula x ++ encode_formula y)
paired_bytes tag x y l h =
    one_of_two (λ n. encode_formula (paired (eqb n and_tag) x y) ≡ groups n ++ (encode_formula x ++ encode_formula y)) and_tag tag l (omega arith) refl refl

quant_bytes :
    (tag : ℕ) (h : Head) (x : Formula) → exists_tag ≤ tag → tag < formula_tags
    → encode_formula (quantified (eqb tag every_tag) h x) ≡ groups tag ++ (encode_head h ++ encode_formula x)
quant_bytes tag h x l k =
    one_of_two (λ n. encode_formula (quantified (eqb n every_tag) h x) ≡ groups n ++ (encode_head h ++ encode_formula x)) exists_tag tag l (omega arith) refl refl

module _ (file : List ℕ) (bytes : Bytes file) (ars : List ℕ) (few : length ars ≤ 256) where
  -- ── formulas: their bytes by the tag that code has read ──
  abbrev Fine : ℕ → ℕ → Formula → Type 0
  Fine levels n f = (depth f ≤ levels) × ScopesBelow number_limit ars n f

  module _ (levels : ℕ) (inner : (n : ℕ) → Exact file (formula_at file ars levels n) (Fine levels n) encode_formula) (n : ℕ) where
    abbrev body : ℕ → ℕ → Read Formula
    body = body_at file ars (formula_at file ars levels) n

    -- a tag, and what stands behind it
    tag_back :
        (tag at : ℕ) (bs rest : List ℕ) (f : Formula) → tag < formula_tags → drop at file ≡ (groups tag ++ bs) ++ rest
        → ((i : ℕ) → drop i file ≡ bs ++ rest → body tag i ≡ got f (i + length bs))
        → formula_at file ars (suc levels) n at ≡ got f (at + length (groups tag ++ bs))
    unfolding formula_at
    tag_back tag at bs rest f small there next =
        let e : drop at file ≡ groups tag ++ (bs ++ rest) = there ∙ append_assoc (groups tag) bs rest in
        let len : at + length (groups tag) + length bs ≡ at + length (groups tag ++ bs) = omega (arith, length-append (groups tag) bs) in
        then_got (below file formula_tags at) _ (below_back file formula_tags at tag _ small (omega (arith, small_limit)) e)
        ∙ next (at + length (groups tag)) (behind file at (groups tag) (bs ++ rest) e)
        ∙ ap (got f) len

    false_back :
        (at : ℕ) (rest : List ℕ) → drop at file ≡ encode_formula absurdity ++ rest
        → formula_at file ars (suc levels) n at ≡ got absurdity (at + length (encode_formula absurdity))
    unfolding formula_at
    false_back at rest there = then_got (below file formula_tags at) _ (below_back file formula_tags at 0 rest (omega arith) (omega (arith, small_limit)) there)

    pair_back :
        (q : Bool) (x y : Formula) (at : ℕ) (rest : List ℕ) → Fine levels n x → Fine levels n y → drop at file ≡ (encode_formula x ++ encode_formula y) ++ rest
        → and_then (formula_at file ars levels n at) (λ x e. and_then (formula_at file ars levels n e) (λ y d. got (paired q x y) d))
        ≡ got (paired q x y) (at + length (encode_formula x ++ encode_formula y))
    pair_back q x y at rest f g there =
        made_back file (formula_at file ars levels n) (Fine levels n) encode_formula (inner n) (λ x. formula_at file ars levels n) (λ x. Fine levels n)
        encode_formula (λ x. inner n) (paired q) x y at rest f g there

    quant_back :
        (q : Bool) (h : Head) (x : Formula) (at : ℕ) (rest : List ℕ) → Scoped ars n h → Fine levels (n + length h.sorts) x
        → drop at file ≡ (encode_head h ++ encode_formula x) ++ rest
        → and_then (scoped_at file ars n at) (λ h e. and_then (formula_at file ars levels (n + length h.sorts) e) (λ x d. got (quantified q h x) d))
        ≡ got (quantified q h x) (at + length (encode_head h ++ encode_formula x))
    quant_back q h x at rest f g there =
        made_back file (scoped_at file ars n) (Scoped ars n) encode_head (scoped_exact file bytes ars few n)
        (λ h. formula_at file ars levels (n + length h.sorts))
        (λ h. Fine levels (n + length h.sorts)) encode_formula (λ h. inner (n + length h.sorts)) (quantified q) h x at rest f g there

    level_back :
        (f : Formula) (at : ℕ) (rest : List ℕ) → Fine (suc levels) n f → drop at file ≡ encode_formula f ++ rest
        → formula_at file ars (suc levels) n at ≡ got f (at + length (encode_formula f))
    level_back absurdity at rest w there = false_back at rest there
    level_back (is (equal t u)) at rest w there =
        tag_back 1 at _ rest (is (equal t u)) (omega arith) there (λ i d. then_got (atom_at file ars 1 i) _ (equal_back file bytes t u i rest w.1 d))
    level_back (isnt (equal t u)) at rest w there =
        tag_back 2 at _ rest (isnt (equal t u)) (omega arith) there (λ i d. then_got (atom_at file ars 2 i) _ (equal_back file bytes t u i rest w.1 d))
    level_back (is (before j k)) at rest w there =
        tag_back 3 at _ rest (is (before j k)) (omega arith) there (λ i d. then_got (atom_at file ars 3 i) _ (times_back file bytes true j k i rest w.1 d))
    level_back (isnt (before j k)) at rest w there =
        tag_back 4 at _ rest (isnt (before j k)) (omega arith) there (λ i d. then_got (atom_at file ars 4 i) _ (times_back file bytes true j k i rest w.1 d))
    level_back (is (together j k)) at rest w there =
        tag_back 5 at _ rest (is (together j k)) (omega arith) there (λ i d. then_got (atom_at file ars 5 i) _ (times_back file bytes false j k i rest w.1 d))
    level_back (isnt (together j k)) at rest w there =
        tag_back 6 at _ rest (isnt (together j k)) (omega arith) there (λ i d. then_got (atom_at file ars 6 i) _
        (times_back file bytes false j k i rest w.1 d))
    level_back (is (action g j)) at rest w there =
        tag_back 7 at _ rest (is (action g j)) (omega arith) there (λ i d. then_got (atom_at file ars 7 i) _
        (action_back file bytes ars few g j i rest w.1 d))
    level_back (isnt (action g j)) at rest w there =
        tag_back 8 at _ rest (isnt (action g j)) (omega arith) there (λ i d. then_got (atom_at file ars 8 i) _
        (action_back file bytes ars few g j i rest w.1 d))
    level_back (both f g) at rest w there =
        tag_back 9 at _ rest (both f g) (omega arith) there
        (λ i d. pair_back true f g i rest (max_left (depth f) (depth g) w.0, w.1.0) (max_right (depth f) (depth g) w.0, w.1.1) d)
    level_back (either f g) at rest w there =
        tag_back 10 at _ rest (either f g) (omega arith) there
        (λ i d. pair_back false f g i rest (max_left (depth f) (depth g) w.0, w.1.0) (max_right (depth f) (depth g) w.0, w.1.1) d)
    level_back (exists s g j f) at rest w there =
        tag_back 11 at _ rest (exists s g j f) (omega arith) there
        (λ i d. quant_back false (head_of s (timed_of g j)) f i rest w.1.0 (omega (arith, w.0), w.1.1) d)
    level_back (every s g j f) at rest w there =
        tag_back 12 at _ rest (every s g j f) (omega arith) there
        (λ i d. quant_back true (head_of s (timed_of g j)) f i rest w.1.0 (omega (arith, w.0), w.1.1) d)

    -- ── what reads ──
    abbrev Form : ℕ → Formula → ℕ → Type 0
    Form at f e = Fine (suc levels) n f × Stands file at (encode_formula f) e

    form_by :
        (tag at i e : ℕ) (bs : List ℕ) (f : Formula) → Fine (suc levels) n f → encode_formula f ≡ groups tag ++ bs → Stands file at (groups tag) i
        → Stands file i bs e → Form at f e
    form_by tag at i e bs f w b s t = (w, subst (λ (l : List ℕ). Stands file at l e) (sym b) (stands_join s t))

    atom_there : (tag at i e : ℕ) (a : Atom) → Stands file at (groups tag) i → AtomForm file ars tag i a e → Form at (signed (asserts tag) a) e
    atom_there tag at i e a s m =
        form_by tag at i e (encode_atom a) (signed (asserts tag) a) (signed_fine (asserts tag) a m.within) (signed_bytes tag a m.low m.high) s
        m.stands
      where
        signed_fine : (q : Bool) (a : Atom) → AtomBelow number_limit ars a → Fine (suc levels) n (signed q a)
        signed_fine true a w = (omega arith, w)
        signed_fine false a w = (omega arith, w)

    pair_there :
        (tag at i e : ℕ) (f : Formula) → Stands file at (groups tag) i → 9 ≤ tag → tag < 11
        → and_then (formula_at file ars levels n i) (λ x e. and_then (formula_at file ars levels n e) (λ y d. got (paired (eqb tag 9) x y) d)) ≡ got f e
        → Form at f e
    pair_there tag at i e f s l k h =
        let m = made_form file (formula_at file ars levels n) (Fine levels n) encode_formula (inner n) (λ x. formula_at file ars levels n) (λ x. Fine levels n)
        encode_formula (λ x. inner n) (paired (eqb tag 9)) f i e h in
        subst (λ (g : Formula). Form at g e) m.made
        (form_by tag at i e (encode_formula m.one ++ encode_formula m.two) (paired (eqb tag 9) m.one m.two)
        (paired_fine (eqb tag 9) m.one m.two m.first m.second)
        (paired_bytes tag m.one m.two l k) s m.stands)
      where
        paired_fine : (q : Bool) (x y : Formula) → Fine levels n x → Fine levels n y → Fine (suc levels) n (paired q x y)
        paired_fine true x y f g = (omega (arith, f.0, g.0), (f.1, g.1))
        paired_fine false x y f g = (omega (arith, f.0, g.0), (f.1, g.1))

    quant_there :
        (tag at i e : ℕ) (f : Formula) → Stands file at (groups tag) i → 11 ≤ tag → tag < 13
        → and_then (scoped_at file ars n i)
        (λ h e. and_then (formula_at file ars levels (n + length h.sorts) e) (λ x d. got (quantified (eqb tag 12) h x) d)) ≡ got f e
        → Form at f e
    quant_there tag at i e f s l k h =
        let m = made_form file (scoped_at file ars n) (Scoped ars n) encode_head (scoped_exact file bytes ars few n)
        (λ h. formula_at file ars levels (n + length h.sorts))
        (λ h. Fine levels (n + length h.sorts)) encode_formula (λ h. inner (n + length h.sorts)) (quantified (eqb tag 12)) f i e h in
        subst (λ (g : Formula). Form at g e) m.made
        (form_by tag at i e (encode_head m.one ++ encode_formula m.two) (quantified (eqb tag 12) m.one m.two)
        (quant_fine (eqb tag 12) m.one m.two m.first m.second)
        (quant_bytes tag m.one m.two l k) s m.stands)
      where
        quant_fine :
            (q : Bool) (h : Head) (x : Formula) → Scoped ars n h → Fine levels (n + length h.sorts) x → Fine (suc levels) n (quantified q h x)
        quant_fine true h x f g = (omega (arith, g.0), (f, g.1))
        quant_fine false h x f g = (omega (arith, g.0), (f, g.1))

    level_form : (f : Formula) (at e : ℕ) → formula_at file ars (suc levels) n at ≡ got f e → Form at f e
    unfolding formula_at
    level_form f at e h =
        cut_got (below file formula_tags at) _ h (λ tag i hi h.
        let t = below_inside file formula_tags at bytes tag i hi in
        cut_eq _ _ _ tag 0 h
        (λ z h. let a : absurdity ≡ f = cc in let b : i ≡ e = cc in
        subst₂ (Form at) a b ((omega arith, tt), subst (λ (m : ℕ). Stands file at (groups m) i) z t.stands))
        (λ z h. cut_lt _ _ _ tag 9 h
        (λ l h. cut_got (atom_at file ars tag i) _ h (λ a d ha h.
        let p : signed (asserts tag) a ≡ f = cc in
        let q : d ≡ e = cc in
        subst₂ (Form at) p q (atom_there tag at i d a t.stands (atom_form file bytes ars few tag i a d ha (some tag z) l))))
        (λ l h. cut_lt _ _ _ tag 11 h
        (λ k h. pair_there tag at i e f t.stands l k h)
        (λ k h. quant_there tag at i e f t.stands k t.small h))))
      where
        some : (m : ℕ) → (m ≡ 0 → ⊥) → 1 ≤ m
        some m z = omega (arith, z)

    level_exact : Exact file (formula_at file ars (suc levels) n) (Fine (suc levels) n) encode_formula
    level_exact = record { back = level_back; form = level_form }

  pub formula_exact : (levels n : ℕ) → Exact file (formula_at file ars levels n) (Fine levels n) encode_formula
  unfolding formula_at
  formula_exact zero n = record { back = λ f at rest w there. absurd (deep f w.0); form = λ f at e h. clash (cc) }
    where
      deep : (f : Formula) → depth f ≤ 0 → ⊥
      deep absurdity h = omega arith
      deep (is a) h = omega arith
      deep (isnt a) h = omega arith
      deep (both f g) h = omega arith
      deep (either f g) h = omega arith
      deep (exists s g i f) h = omega arith
      deep (every s g i f) h = omega arith
  formula_exact (suc levels) n = level_exact levels (formula_exact levels) n

  -- ── the whole file ──
  pub property_form : (f : Formula) (e : ℕ) → property file ars ≡ got f e → FormulaWithin ars f × (file ≡ encode_formula f) × (e ≡ length file)
  unfolding property
  property_form f e h =
      cut_got (formula_at file ars most_nesting 0 0) _ h (λ g d hg h. cut_eq _ _ _ d (length file) h
      (λ q h.
      let a : g ≡ f = cc in
      let b : d ≡ e = cc in
      let w = (formula_exact most_nesting 0).form f 0 e (hg ∙ ap₂ got a b) in
      let m : length file ≤ e = omega arith in
      let n : drop e file ≡ [] = drop_of_length-le file m in (
        record { nesting = w.0.0; scopes = w.0.1 },
        w.1.there ∙ ap (λ (l : List ℕ). encode_formula f ++ l) n ∙ append-nil (encode_formula f),
        sym b ∙ q,
      ))
      (λ q h. clash (cc)))

  pub property_back : (f : Formula) → FormulaWithin ars f → file ≡ encode_formula f → property file ars ≡ got f (length file)
  unfolding property
  property_back f w h =
      let e : 0 + length (encode_formula f) ≡ length file = omega (arith, ap length h) in
      then_got (formula_at file ars most_nesting 0 0) _ ((formula_exact most_nesting 0).back f 0 [] (w.nesting, w.scopes)
      (h ∙ sym (append-nil (encode_formula f))))
      ∙ ap (λ (t : Bool). pick t (got f (0 + length (encode_formula f))) fault) (eq-eqb (0 + length (encode_formula f)) (length file) e)
      ∙ ap (got f) e

  -- exact in both directions
  pub property_exact : (f : Formula) → (property file ars ≡ got f (length file)) ↔ (FormulaWithin ars f × (file ≡ encode_formula f))
  property_exact f = ((λ h. let w = property_form f (length file) h in (w.0, w.1)), (λ h. property_back f h.0 h.1))

  -- a fault exactly where the file is the bytes of no formula within the limits
  pub property_fault : (property file ars ≡ fault) ↔ ((f : Formula) → FormulaWithin ars f → file ≡ encode_formula f → ⊥)
  property_fault = (
    (λ h f w e. let z : got f (length file) ≡ fault = sym (property_back f w e) ∙ h in clash (cc)),
    (λ n. go n (property file ars) refl),
  )
    where
      go :
          ((f : Formula) → FormulaWithin ars f → file ≡ encode_formula f → ⊥) → (r : Read Formula) → property file ars ≡ r → r ≡ fault
      go n (got f e) h = let w = property_form f e h in absurd (n f w.0 w.1)
      go n fault h = refl
