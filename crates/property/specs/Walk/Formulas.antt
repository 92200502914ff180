-- Formulas, as code has them.
use Prim.Native.Nat.{ℕ, zero, suc, ◌+◌, ◌-◌, ◌≤◌, ◌<◌}
use Rattle.std.specs.Prelude.{List, [], ◌++◌, Bool, true, false, ◌&&◌, ◌≡◌, length, take, ltb, leb, eqb, None}
use Rattle.std.proofs.Math.Bool.{and_assoc}
use Rattle.std.proofs.Math.Seq.{take-append_seam}
use Rattle.std.proofs.Math.Path.{refl, ap}
use Rattle.std.proofs.Common.{ap₂, sym, ◌∙◌, subst, lt-ltb, le-ltb, eq-eqb, ne_eqb}
use native.Mathlib.Omega.{arith}
use Rattle.lists.specs.Choice.{pick, cut, clash}
use Rattle.lists.specs.Tests.{leb_le}
use Rattle.number.specs.Reading.{Read, got, fault, and_then, below, seen}
use Rattle.number.specs.Reading.Laws.{cut_got, then_got, then_fault, cut_seen, cut_fault}
use Rattle.property.specs.Figures.{false_tag, and_tag, exists_tag, every_tag, formula_tags, most_scope, most_nesting}
use Rattle.property.specs.Formula.{Sort, Atom, Formula, absurdity}
use Rattle.property.specs.Fit.{atom_fits, pattern_fits, guarded, fit}
use Rattle.property.specs.Layout.{Head, signed, asserts, paired, quantified, head_at, atom_at, scoped_at, pair_at, quant_at, body_at, formula_at, property}
use Rattle.property.specs.Walk.{Saw, saw, also, guard_fits, HeadRead}
use Rattle.property.specs.Walk.Chain.{chain_end, chain_fault}
use Rattle.property.specs.declared.terms.Sort as code
use Rattle.property.specs.declared.heads.Opened.{Opened}

-- ── the test of a formula by its parts ──
signed_fit : (scope : List Sort) (q : Bool) (a : Atom) → fit scope (signed q a) ≡ atom_fits scope a
signed_fit scope true a = refl
signed_fit scope false a = refl

paired_fit : (scope : List Sort) (q : Bool) (x y : Formula) → fit scope (paired q x y) ≡ (fit scope x && fit scope y)
paired_fit scope true x y = refl
paired_fit scope false x y = refl

quantified_fit :
    (scope : List Sort) (q : Bool) (h : Head) (x : Formula)
    → fit scope (quantified q h x) ≡ (guard_fits scope h.sorts h.guard && fit (scope ++ h.sorts) x)
quantified_fit scope true h x =
    sym (and_assoc (pattern_fits (scope ++ h.sorts) h.guard.pattern h.guard.time)
    (guarded (length scope) h.sorts h.guard.pattern.terms h.guard.time)
    (fit (scope ++ h.sorts) x))
quantified_fit scope false h x =
    sym (and_assoc (pattern_fits (scope ++ h.sorts) h.guard.pattern h.guard.time)
    (guarded (length scope) h.sorts h.guard.pattern.terms h.guard.time)
    (fit (scope ++ h.sorts) x))

-- ── two formulas ──
module _ (scope : List Sort) (inner : ℕ → Read Formula) (at : ℕ) (q : Bool) where
  pub pair_end :
      {e : ℕ} {b : Bool} {r : Saw} → saw e b ≡ seen (fit scope) (inner at) → r ≡ seen (fit scope) (inner e)
      → also b r ≡ seen (fit scope) (pair_at inner q at)
  pair_end h k = chain_end (fit scope) (λ x. fit scope) (fit scope) (paired q) (paired_fit scope q) (inner at) (λ x. inner) h (λ x g. k)

  pub pair_fault : None ≡ seen (fit scope) (inner at) → None ≡ seen (fit scope) (pair_at inner q at)
  pair_fault h = chain_fault (fit scope) (λ x. fit scope) (fit scope) (paired q) (paired_fit scope q) (inner at) (λ x. inner) h

-- ── a quantifier ──
pub scoped_room : (file ars : List ℕ) (n at : ℕ) (h : Head) (e : ℕ) → scoped_at file ars n at ≡ got h e → n + length h.sorts ≤ most_scope
unfolding scoped_at
scoped_room file ars n at h e q =
    cut_got (head_at file ars at) _ q (λ g d hg q. cut _ _ _ (leb (n + length g.sorts) most_scope) q
    (λ t q. let p : g ≡ h = cc in subst (λ (x : Head). n + length x.sorts ≤ most_scope) p (leb_le (n + length g.sorts) most_scope t))
    (λ t q. clash (cc)))

-- the sorts in scope, in front of room for more
pub copied : (l sorts room : List code.Sort) → l ≡ sorts → take (length sorts) (l ++ room) ≡ sorts
copied l sorts room h = ap (λ (m : List code.Sort). take (length sorts) (m ++ room)) h ∙ take-append_seam sorts room

module _ (file ars : List ℕ) (inner : ℕ → ℕ → Read Formula) (n at : ℕ) (old new : List Sort) where
  -- what is in scope of the body fits the array
  pub quant_room : {o : Opened} → HeadRead (scoped_at file ars n at) n old new o → o.count ≤ most_scope
  quant_room {o} h = let z = scoped_room file ars n at h.head o.end h.there in omega (arith, h.count, z)

  module _ (q : Bool) (sorts : List Sort) (mine : take n old ≡ sorts) where
    pub quant_end :
        {o : Opened} {r : Saw} → HeadRead (scoped_at file ars n at) n old new o → r ≡ seen (fit (take o.count new)) (inner o.count o.end)
        → also o.fits r ≡ seen (fit sorts) (quant_at file ars inner n q at)
    quant_end {o} {r} h k =
        chain_end (λ g. guard_fits sorts g.sorts g.guard) (λ g. fit (sorts ++ g.sorts)) (fit sorts) (quantified q)
        (quantified_fit sorts q) (scoped_at file ars n at) (λ g. inner (n + length g.sorts))
        (ap (saw o.end) (h.right ∙ ap (λ (s : List Sort). guard_fits s h.head.sorts h.head.guard) mine)
        ∙ ap (seen (λ g. guard_fits sorts g.sorts g.guard)) (sym h.there))
        (λ g p.
        let a : got g o.end ≡ got h.head o.end = sym p ∙ h.there in
        let z : h.head ≡ g = cc in
        k ∙ ap₂ (λ (s : List Sort) (x : ℕ). seen (fit s) (inner x o.end))
        (h.scope ∙ ap₂ (λ (s : List Sort) (y : Head). s ++ y.sorts) mine z)
        (h.count ∙ ap (λ (y : Head). n + length y.sorts) z))

    pub quant_fault : scoped_at file ars n at ≡ fault → None ≡ seen (fit sorts) (quant_at file ars inner n q at)
    quant_fault h =
        ap (λ (r : Read Head). seen (fit sorts) (and_then r (λ h e. and_then (inner (n + length h.sorts) e) (λ x d. got (quantified q h x) d))))
        (sym h)

-- ── behind the tag ──
module _ (file ars : List ℕ) (inner : ℕ → ℕ → Read Formula) (n tag at : ℕ) (scope : List Sort) where
  abbrev atomic : Read Formula
  atomic = and_then (atom_at file ars tag at) (λ a e. got (signed (asserts tag) a) e)

  abbrev choose : Bool → Bool → Bool → Read Formula
  choose a b c = pick a (got absurdity at) (pick b atomic (pick c (pair_at (inner n) (eqb tag and_tag) at) (quant_at file ars inner n (eqb tag every_tag) at)))

  abbrev Said : Saw → Type 0
  Said r = r ≡ seen (fit scope) (body_at file ars inner n tag at)

  said : (a b c : Bool) {r : Saw} → eqb tag false_tag ≡ a → ltb tag and_tag ≡ b → ltb tag exists_tag ≡ c → r ≡ seen (fit scope) (choose a b c) → Said r
  said a b c x y z h =
      h ∙ ap (λ (d : Bool). seen (fit scope) (choose d b c)) (sym x) ∙ ap (λ (d : Bool). seen (fit scope) (choose (eqb tag false_tag) d c)) (sym y)
      ∙ ap (λ (d : Bool). seen (fit scope) (choose (eqb tag false_tag) (ltb tag and_tag) d)) (sym z)

  pub body_false : tag ≡ false_tag → Said (saw at true)
  body_false z = said true (ltb tag and_tag) (ltb tag exists_tag) (eq-eqb tag false_tag z) refl refl refl

  pub body_atom : {r : Saw} → (tag ≡ false_tag → ⊥) → tag < and_tag → r ≡ seen (atom_fits scope) (atom_at file ars tag at) → Said r
  body_atom z l h = said false true (ltb tag exists_tag) (ne_eqb tag false_tag z) (lt-ltb tag and_tag l) refl (h ∙ go (atom_at file ars tag at))
    where
      go : (r : Read Atom) → seen (atom_fits scope) r ≡ seen (fit scope) (and_then r (λ a e. got (signed (asserts tag) a) e))
      go (got a e) = ap (saw e) (sym (signed_fit scope (asserts tag) a))
      go fault = refl

  pub body_pair :
      {r : Saw} → (tag ≡ false_tag → ⊥) → and_tag ≤ tag → tag < exists_tag → ((q : Bool) → r ≡ seen (fit scope) (pair_at (inner n) q at)) → Said r
  body_pair z l k h = said false false true (ne_eqb tag false_tag z) (le-ltb tag and_tag l) (lt-ltb tag exists_tag k) (h (eqb tag and_tag))

  pub body_quant :
      {r : Saw} → (tag ≡ false_tag → ⊥) → and_tag ≤ tag → exists_tag ≤ tag → ((q : Bool) → r ≡ seen (fit scope) (quant_at file ars inner n q at)) → Said r
  body_quant z l k h = said false false false (ne_eqb tag false_tag z) (le-ltb tag and_tag l) (le-ltb tag exists_tag k) (h (eqb tag every_tag))

-- ── a level ──
module _ (file ars : List ℕ) (n at : ℕ) (scope : List Sort) where
  pub level_none : (levels : ℕ) → levels ≡ 0 → None ≡ seen (fit scope) (formula_at file ars levels n at)
  unfolding formula_at
  level_none zero z = refl
  level_none (suc l) z = absurd (omega arith)

  pub level_tag :
      (levels : ℕ) {tag e : ℕ} {r : Saw} → (levels ≡ 0 → ⊥) → got tag e ≡ below file formula_tags at
      → r ≡ seen (fit scope) (body_at file ars (formula_at file ars (levels - 1)) n tag e) → r ≡ seen (fit scope) (formula_at file ars levels n at)
  unfolding formula_at
  level_tag zero z h k = absurd (z refl)
  level_tag (suc l) {tag} {e} z h k =
      let y : suc l - 1 ≡ l = omega arith in
      k ∙ ap (λ (m : ℕ). seen (fit scope) (body_at file ars (formula_at file ars m) n tag e)) y
      ∙ ap (seen (fit scope)) (sym (then_got (below file formula_tags at) (λ tag e. body_at file ars (formula_at file ars l) n tag e) (sym h)))

  pub level_fault : (levels : ℕ) → (levels ≡ 0 → ⊥) → fault ≡ below file formula_tags at → None ≡ seen (fit scope) (formula_at file ars levels n at)
  unfolding formula_at
  level_fault zero z h = absurd (z refl)
  level_fault (suc l) z h =
      ap (seen (fit scope)) (sym (then_fault (below file formula_tags at) (λ tag e. body_at file ars (formula_at file ars l) n tag e) (sym h)))

-- ── the whole file ──
module _ (file ars : List ℕ) where
  abbrev whole : Read Formula → Read Formula
  whole r = and_then r (λ f e. pick (eqb e (length file)) (got f e) fault)

  pub property_end :
      {e : ℕ} {b : Bool} → saw e b ≡ seen (fit []) (formula_at file ars most_nesting 0 0) → e ≡ length file
      → saw e b ≡ seen (fit []) (property file ars)
  unfolding property
  property_end {e} {b} h z =
      cut_seen (fit []) (formula_at file ars most_nesting 0 0) (sym h) (λ f g c.
      ap (saw e) (sym c) ∙ ap (λ (t : Bool). seen (fit []) (pick t (got f e) fault)) (sym (eq-eqb e (length file) z)) ∙ ap
      (λ (r : Read Formula). seen (fit []) (whole r)) (sym g))

  pub property_left :
      {e : ℕ} {b : Bool} → saw e b ≡ seen (fit []) (formula_at file ars most_nesting 0 0) → (e ≡ length file → ⊥)
      → None ≡ seen (fit []) (property file ars)
  unfolding property
  property_left {e} {b} h z =
      cut_seen (fit []) (formula_at file ars most_nesting 0 0) (sym h) (λ f g c.
      ap (λ (t : Bool). seen (fit []) (pick t (got f e) fault)) (sym (ne_eqb e (length file) z)) ∙ ap (λ (r : Read Formula). seen (fit []) (whole r)) (sym g))

  pub property_none : None ≡ seen (fit []) (formula_at file ars most_nesting 0 0) → None ≡ seen (fit []) (property file ars)
  unfolding property
  property_none h = ap (λ (r : Read Formula). seen (fit []) (whole r)) (sym (cut_fault (fit []) (formula_at file ars most_nesting 0 0) (sym h)))
