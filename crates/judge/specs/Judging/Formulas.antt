-- What is written at a place, by its tag: t is the tag, i the place behind it. The same of what is fit.
use Rattle.std.specs.Prelude.{ℕ, ◌+◌, ◌≤◌, ◌<◌, List, ◌++◌, Bool, true, false, ◌&&◌, ◌≡◌, refl, eqb}
use Rattle.std.proofs.Common.{sym, ◌∙◌, subst₂, arith}
use Rattle.std.proofs.Math.Path.{ap, subst}
use Rattle.std.proofs.Math.ListN.{length, length-append}
use Rattle.lists.specs.Tests.{and_split}
use Rattle.number.specs.Groups.{number_limit}
use Rattle.number.specs.Reading.{got, read_number}
use Rattle.property.specs.Figures.{false_tag, and_tag, exists_tag, every_tag, most_scope}
use Rattle.property.specs.Formula.{Sort, Atom, Formula, absurdity}
use Rattle.property.specs.Formula.Limits.{HeadBelow, ScopesBelow}
use Rattle.property.specs.Fit.{fit, pattern_fits, atom_fits, guarded}
use Rattle.property.specs.Layout.{Head, head_at, atom_at, signed, asserts, paired, quantified}
use Rattle.property.specs.Reads.{Reads, r_false, r_atom, r_pair, r_quant}
use Rattle.judge.specs.Judging.{Written, written_of, Fits}
use Rattle.judge.specs.Judging.Forward.{head_on}

-- ── by the tag ──
pub record AtomThere (file ars : List ℕ) (t i : ℕ) (φ : Formula) (k : ℕ) : Type 0 where
  pub atom : Atom
  pub here : atom_at file ars t i ≡ got atom k
  pub whole : signed (asserts t) atom ≡ φ

pub record PairThere (file ars : List ℕ) (t i : ℕ) (φ : Formula) (k : ℕ) : Type 0 where
  pub x : Formula
  pub y : Formula
  pub middle : ℕ
  pub left : Reads file ars i x middle
  pub right : Reads file ars middle y k
  pub whole : paired (eqb t and_tag) x y ≡ φ

pub record QuantThere (file ars : List ℕ) (t i : ℕ) (φ : Formula) (k : ℕ) : Type 0 where
  pub head : Head
  pub x : Formula
  pub behind : ℕ
  pub here : head_at file ars i ≡ got head behind
  pub later : i ≤ behind
  pub body : Reads file ars behind x k
  pub whole : quantified (eqb t every_tag) head x ≡ φ

module _ (file ars : List ℕ) where
  pub false_there : {at k t i : ℕ} {φ : Formula} → Reads file ars at φ k → read_number file at ≡ got t i → t ≡ false_tag → (absurdity ≡ φ) × (i ≡ k)
  false_there {t = t} (r_false h) n z = (refl, (cc))
  false_there {t = t} (r_atom {tag = u} h l g e) n z = let q : u ≡ t = cc in absurd (omega (arith, l))
  false_there {t = t} (r_pair {tag = u} h l x y e) n z = let q : u ≡ t = cc in absurd (omega (arith, l))
  false_there {t = t} (r_quant {tag = u} h l g x e) n z = let q : u ≡ t = cc in absurd (omega (arith, l))

  pub atom_there :
      {at k t i : ℕ} {φ : Formula} → Reads file ars at φ k → read_number file at ≡ got t i → ¬ (t ≡ false_tag) → t < and_tag
      → AtomThere file ars t i φ k
  atom_there {t = t} (r_false h) n z s = let q : false_tag ≡ t = cc in absurd (z (sym q))
  atom_there {k = k} {t = t} {i = i} (r_atom {i = i'} {tag = u} {a = a} h l g e) n z s =
      let q : u ≡ t = cc in
      let p : i' ≡ i = cc in
      record { atom = a; here = subst₂ (λ (x y : ℕ). atom_at file ars x y ≡ got a k) q p g; whole = ap (λ (x : ℕ). signed (asserts x) a) (sym q) ∙ e }
  atom_there {t = t} (r_pair {tag = u} h l x y e) n z s = let q : u ≡ t = cc in absurd (omega (arith, l))
  atom_there {t = t} (r_quant {tag = u} h l g x e) n z s = let q : u ≡ t = cc in absurd (omega (arith, l))

  pub pair_there :
      {at k t i : ℕ} {φ : Formula} → Reads file ars at φ k → read_number file at ≡ got t i → and_tag ≤ t → t < exists_tag
      → PairThere file ars t i φ k
  pair_there {t = t} (r_false h) n z s = let q : false_tag ≡ t = cc in absurd (omega arith)
  pair_there {t = t} (r_atom {tag = u} h l g e) n z s = let q : u ≡ t = cc in absurd (omega (arith, l))
  pair_there {t = t} {i = i} (r_pair {i = i'} {m = m} {tag = u} {x = x} {y = y} h l a b e) n z s =
      let q : u ≡ t = cc in
      let p : i' ≡ i = cc in
      record {
        x = x;
        y = y;
        middle = m;
        left = subst (λ (v : ℕ). Reads file ars v x m) p a;
        right = b;
        whole = ap (λ (v : ℕ). paired (eqb v and_tag) x y) (sym q) ∙ e;
      }
  pair_there {t = t} (r_quant {tag = u} h l g x e) n z s = let q : u ≡ t = cc in absurd (omega (arith, l))

  pub quant_there : {at k t i : ℕ} {φ : Formula} → Reads file ars at φ k → read_number file at ≡ got t i → exists_tag ≤ t → QuantThere file ars t i φ k
  quant_there {t = t} (r_false h) n z = let q : false_tag ≡ t = cc in absurd (omega arith)
  quant_there {t = t} (r_atom {tag = u} h l g e) n z = let q : u ≡ t = cc in absurd (omega (arith, l))
  quant_there {t = t} (r_pair {tag = u} h l x y e) n z = let q : u ≡ t = cc in absurd (omega (arith, l))
  quant_there {t = t} {i = i} (r_quant {i = i'} {j = j} {tag = u} {h = hd} {x = x} h l g b e) n z =
      let q : u ≡ t = cc in
      let p : i' ≡ i = cc in
      let g' : head_at file ars i ≡ got hd j = ap (head_at file ars) (sym p) ∙ g in
      record {
        head = hd;
        x = x;
        behind = j;
        here = g';
        later = head_on file ars i hd j g';
        body = b;
        whole = ap (λ (v : ℕ). quantified (eqb v every_tag) hd x) (sym q) ∙ e;
      }

-- ── the same of what is fit and within the limits ──
signed_fits : (q : Bool) (a : Atom) (scope : List Sort) → fit scope (signed q a) ≡ atom_fits scope a
signed_fits true a scope = refl
signed_fits false a scope = refl

paired_fits : (q : Bool) (x y : Formula) (scope : List Sort) → fit scope (paired q x y) ≡ (fit scope x && fit scope y)
paired_fits true x y scope = refl
paired_fits false x y scope = refl

paired_within :
    (q : Bool) (x y : Formula) (ars : List ℕ) (n : ℕ) → ScopesBelow number_limit ars n (paired q x y)
    → ScopesBelow number_limit ars n x × ScopesBelow number_limit ars n y
paired_within true x y ars n w = w
paired_within false x y ars n w = w

guard_fits : List Sort → Head → Bool
guard_fits scope h = pattern_fits (scope ++ h.sorts) h.guard.pattern h.guard.time

new_guarded : List Sort → Head → Bool
new_guarded scope h = guarded (length scope) h.sorts h.guard.pattern.terms h.guard.time

quantified_fits :
    (q : Bool) (h : Head) (x : Formula) (scope : List Sort)
    → fit scope (quantified q h x) ≡ (guard_fits scope h && (new_guarded scope h && fit (scope ++ h.sorts) x))
unfolding guard_fits new_guarded
quantified_fits true h x scope = refl
quantified_fits false h x scope = refl

quantified_within :
    (q : Bool) (h : Head) (x : Formula) (ars : List ℕ) (n : ℕ) → ScopesBelow number_limit ars n (quantified q h x)
    → HeadBelow number_limit ars n h.sorts h.guard.pattern h.guard.time × ScopesBelow number_limit ars (n + length h.sorts) x
quantified_within true h x ars n w = w
quantified_within false h x ars n w = w

pub record FitAtom (file : List ℕ) (t i : ℕ) (w : Written) : Type 0 where
  pub atom : Atom
  pub here : atom_at file w.ars t i ≡ got atom w.end
  pub whole : signed (asserts t) atom ≡ w.formula
  pub fits : atom_fits w.scope atom ≡ true

pub record FitPair (file table : List ℕ) (t i n : ℕ) (w : Written) : Type 0 where
  pub x : Formula
  pub y : Formula
  pub middle : ℕ
  pub left : Fits file table i n (written_of w.ars w.scope x middle)
  pub right : Fits file table middle n (written_of w.ars w.scope y w.end)
  pub whole : paired (eqb t and_tag) x y ≡ w.formula

pub record FitQuant (file table : List ℕ) (t i n : ℕ) (w : Written) : Type 0 where
  pub head : Head
  pub x : Formula
  pub behind : ℕ
  pub here : head_at file w.ars i ≡ got head behind
  pub later : i ≤ behind
  pub few : length (w.scope ++ head.sorts) ≤ most_scope
  pub body : Fits file table behind (n + length head.sorts) (written_of w.ars (w.scope ++ head.sorts) x w.end)
  pub whole : quantified (eqb t every_tag) head x ≡ w.formula
  pub fits : pattern_fits (w.scope ++ head.sorts) head.guard.pattern head.guard.time ≡ true
  pub guards : guarded (length w.scope) head.sorts head.guard.pattern.terms head.guard.time ≡ true

module _ {file table : List ℕ} {at n t i : ℕ} (w : Written) (f : Fits file table at n w) (tag : read_number file at ≡ got t i) where
  pub fit_atom : ¬ (t ≡ false_tag) → t < and_tag → FitAtom file t i w
  fit_atom z s =
      let a = atom_there file w.ars f.formed.reads tag z s in
      record {
        atom = a.atom;
        here = a.here;
        whole = a.whole;
        fits = sym (signed_fits (asserts t) a.atom w.scope) ∙ ap (fit w.scope) a.whole ∙ f.fits;
      }

  pub fit_pair : and_tag ≤ t → t < exists_tag → FitPair file table t i n w
  fit_pair z s =
      let a = pair_there file w.ars f.formed.reads tag z s in
      let p = and_split (fit w.scope a.x) (fit w.scope a.y)
      (sym (paired_fits (eqb t and_tag) a.x a.y w.scope) ∙ ap (fit w.scope) a.whole ∙ f.fits) in
      let q = paired_within (eqb t and_tag) a.x a.y w.ars (length w.scope)
      (subst (ScopesBelow number_limit w.ars (length w.scope)) (sym a.whole) f.within) in
      record {
        x = a.x;
        y = a.y;
        middle = a.middle;
        left = record { formed = record { arities = f.formed.arities; reads = a.left }; size = f.size; few = f.few; fits = p.0; within = q.0 };
        right = record { formed = record { arities = f.formed.arities; reads = a.right }; size = f.size; few = f.few; fits = p.1; within = q.1 };
        whole = a.whole;
      }

  pub fit_quant : exists_tag ≤ t → FitQuant file table t i n w
  unfolding guard_fits new_guarded
  fit_quant z =
      let a = quant_there file w.ars f.formed.reads tag z in
      let h = a.head in
      let p = and_split (guard_fits w.scope h) (new_guarded w.scope h && fit (w.scope ++ h.sorts) a.x)
      (sym (quantified_fits (eqb t every_tag) h a.x w.scope) ∙ ap (fit w.scope) a.whole ∙ f.fits) in
      let g = and_split (new_guarded w.scope h) (fit (w.scope ++ h.sorts) a.x) p.1 in
      let q = quantified_within (eqb t every_tag) h a.x w.ars (length w.scope)
      (subst (ScopesBelow number_limit w.ars (length w.scope)) (sym a.whole) f.within) in
      let l : length (w.scope ++ h.sorts) ≡ length w.scope + length h.sorts = length-append w.scope h.sorts in
      record {
        head = h;
        x = a.x;
        behind = a.behind;
        here = a.here;
        later = a.later;
        few = omega (arith, l, q.0.room);
        body = record {
          formed = record { arities = f.formed.arities; reads = a.body };
          size = omega (arith, l, f.size);
          few = omega (arith, f.size, q.0.room);
          fits = g.1;
          within = subst (λ (m : ℕ). ScopesBelow number_limit w.ars m a.x) (sym l) q.1;
        };
        whole = a.whole;
        fits = p.0;
        guards = g.0;
      }
