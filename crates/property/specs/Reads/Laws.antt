-- What the reader got is written so in the file. A table of arities with more slots than symbols says the same.
use Prim.Native.Nat.{ℕ, zero, suc, ◌+◌, ◌≤◌, ◌<◌}
use Rattle.std.specs.Prelude.{List, Bool, ◌≡◌, ltb, leb}
use Rattle.std.proofs.Math.Bool.{true, false}
use Rattle.std.proofs.Math.Path.{ap, ap₂, subst₂}
use Rattle.std.proofs.Common.{◌∙◌, arith}
use Rattle.std.proofs.Math.ListN.{length}
use Rattle.lists.specs.Choice.{pick, cut, cut_lt, cut_eq, clash}
use Rattle.number.specs.Reading.{got, and_then, read_number, below, many, counted}
use Rattle.number.specs.Reading.Laws.{cut_got, then_got}
use Rattle.number.specs.Reading.Numbers.{below_yes}
use Rattle.term.specs.Arity.{padded}
use Rattle.term.specs.Arity.Laws.{length_padded}
use Rattle.prepared.specs.Prepared.Laws.{padded_in}
use Rattle.property.specs.Figures.{and_tag, exists_tag, formula_tags, most_new, most_scope, most_nesting}
use Rattle.property.specs.Formula.{Atom, Formula, Pattern, pattern_of, absurdity}
use Rattle.property.specs.Layout.{Timed, Head, term_at, sort_at, equal_at, times_at}
use Rattle.property.specs.Layout.{fact_at, timed_at, head_at, action_at, atom_at, scoped_at, formula_at, property}
use Rattle.property.specs.Reads.{Reads, r_false, r_atom, r_pair, r_quant}

-- a number below a bound is a number
below_number : (file : List ℕ) (n at v e : ℕ) → below file n at ≡ got v e → (read_number file at ≡ got v e) × (v < n)
unfolding below
below_number file n at v e h =
    cut_got (read_number file at) _ h (λ w d r h. cut_lt _ _ _ w n h
    (λ l h. let a : w ≡ v = cc in let b : d ≡ e = cc in (r ∙ ap₂ got a b, omega arith))
    (λ l h. clash (cc)))

module _ (file ars : List ℕ) where
  -- ── what the reader got ──
  scoped_head : (n at : ℕ) (h : Head) (e : ℕ) → scoped_at file ars n at ≡ got h e → head_at file ars at ≡ got h e
  unfolding scoped_at
  scoped_head n at h e g =
      cut_got (head_at file ars at) _ g (λ k d r g. cut _ _ _ (leb (n + length k.sorts) most_scope) g
      (λ t g. let a : k ≡ h = cc in let b : d ≡ e = cc in r ∙ ap₂ got a b)
      (λ t g. clash (cc)))

  pub formula_reads : (levels n at : ℕ) (f : Formula) (e : ℕ) → formula_at file ars levels n at ≡ got f e → Reads file ars at f e
  unfolding formula_at
  formula_reads zero n at f e h = clash (cc)
  formula_reads (suc levels) n at f e h =
      cut_got (below file formula_tags at) _ h (λ tag i hi h.
      let t = below_number file formula_tags at tag i hi in
      cut_eq _ _ _ tag 0 h
      (λ z h. let a : absurdity ≡ f = cc in let b : i ≡ e = cc in
      subst₂ (λ (g : Formula) (k : ℕ). Reads file ars at g k) a b (r_false (t.0 ∙ ap (λ (m : ℕ). got m i) z)))
      (λ z h. cut_lt _ _ _ tag and_tag h
      (λ l h. cut_got (atom_at file ars tag i) _ h (λ a d ha h.
      let q : d ≡ e = cc in
      r_atom t.0 (omega (arith, z), omega arith) (ha ∙ ap (got a) q) (cc)))
      (λ l h. cut_lt _ _ _ tag exists_tag h
      (λ k h. cut_got (formula_at file ars levels n i) _ h (λ x d hx h. cut_got (formula_at file ars levels n d) _ h (λ y c hy h.
      let q : c ≡ e = cc in
      r_pair t.0 (l, omega arith) (formula_reads levels n i x d hx) (formula_reads levels n d y e (hy ∙ ap (got y) q)) (cc))))
      (λ k h. cut_got (scoped_at file ars n i) _ h (λ g d hg h. cut_got (formula_at file ars levels (n + length g.sorts) d) _ h (λ x c hx h.
      let q : c ≡ e = cc in
      r_quant t.0 (k, omega (arith, t.1)) (scoped_head n i g d hg) (formula_reads levels (n + length g.sorts) d x e (hx ∙ ap (got x) q)) (cc)))))))

  pub property_reads : (f : Formula) (e : ℕ) → property file ars ≡ got f e → Reads file ars 0 f e
  unfolding property
  property_reads f e h =
      cut_got (formula_at file ars most_nesting 0 0) _ h (λ g d hg h. cut_eq _ _ _ d (length file) h
      (λ q h. let a : g ≡ f = cc in let b : d ≡ e = cc in formula_reads most_nesting 0 0 f e (hg ∙ ap₂ got a b))
      (λ q h. clash (cc)))

  -- ── a table with more slots ──
  module _ (n : ℕ) (room : length ars ≤ n) where
    fact_wider : (at : ℕ) (g : Pattern) (e : ℕ) → fact_at file ars at ≡ got g e → fact_at file (padded n ars) at ≡ got g e
    unfolding fact_at
    fact_wider at g e h =
        cut_got (below file (length ars) at) _ h (λ s d hs h.
        let t = below_number file (length ars) at s d hs in
        then_got (below file (length (padded n ars)) at) _
        (below_yes file (length (padded n ars)) at t.0 (omega (arith, t.1, length_padded n ars)))
        ∙ ap (λ (k : ℕ). and_then (many (term_at file) k d) (λ ts d. got (pattern_of s ts) d)) (padded_in n ars s room t.1)
        ∙ h)

    timed_wider : (at : ℕ) (g : Timed) (e : ℕ) → timed_at file ars at ≡ got g e → timed_at file (padded n ars) at ≡ got g e
    unfolding timed_at
    timed_wider at g e h = cut_got (fact_at file ars at) _ h (λ p d hp h. then_got (fact_at file (padded n ars) at) _ (fact_wider at p d hp) ∙ h)

    head_wider : (at : ℕ) (h : Head) (e : ℕ) → head_at file ars at ≡ got h e → head_at file (padded n ars) at ≡ got h e
    unfolding head_at
    head_wider at h e g = cut_got (counted file most_new (sort_at file) at) _ g (λ s d hs g. cut_got (timed_at file ars d) _ g (λ t c ht g.
        then_got (counted file most_new (sort_at file) at) _ hs ∙ then_got (timed_at file (padded n ars) d) _ (timed_wider d t c ht) ∙ g))

    atom_wider : (tag at : ℕ) (a : Atom) (e : ℕ) → atom_at file ars tag at ≡ got a e → atom_at file (padded n ars) tag at ≡ got a e
    unfolding action_at
    atom_wider tag at a e h = go (ltb tag 3) (ltb tag 7) h
      where
        go : (b c : Bool) → pick b (equal_at file at) (pick c (times_at file (ltb tag 5) at) (action_at file ars at)) ≡ got a e
            → pick b (equal_at file at) (pick c (times_at file (ltb tag 5) at) (action_at file (padded n ars) at)) ≡ got a e
        go true c h = h
        go false true h = h
        go false false h = cut_got (timed_at file ars at) _ h (λ g d hg h. then_got (timed_at file (padded n ars) at) _ (timed_wider at g d hg) ∙ h)

    pub reads_wider : {at k : ℕ} {φ : Formula} → Reads file ars at φ k → Reads file (padded n ars) at φ k
    reads_wider (r_false h) = r_false h
    reads_wider {at} {k} (r_atom {i = i} {tag = t} {a = a} h l g e) = r_atom h l (atom_wider t i a k g) e
    reads_wider (r_pair h l x y e) = r_pair h l (reads_wider x) (reads_wider y) e
    reads_wider (r_quant {i = i} {j = j} {h = hd} h l g x e) = r_quant h l (head_wider i hd j g) (reads_wider x) e
