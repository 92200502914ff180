-- What reads is the encoding of one formed term in range, and each such term reads back.
use Prim.Native.Nat.{ℕ, zero, suc, ◌+◌, ◌<◌}
use Rattle.std.specs.Prelude.{List, [], ◌∷◌, ◌++◌, ◌≡◌, length, drop}
use Rattle.std.proofs.Common.{append_assoc, ap, ap₂, sym, ◌∙◌, subst, subst₂, arith, length-append}
use Rattle.std.specs.Prelude.{Option, Some, None}
use Rattle.std.proofs.Math.Path.{refl}
use Rattle.lists.specs.Choice.{clash}
use Rattle.octets.specs.Head.{Bytes, Stands, stands_join, behind}
use Rattle.number.specs.Groups.{groups, number_limit}
use Rattle.number.specs.Reading.{Read, got, many}
use Rattle.number.specs.Reading.Laws.{cut_got, then_got}
use Rattle.number.specs.Reading.Many.{many_cons}
use Rattle.number.specs.Reading.Numbers.{read_back, read_form}
use Rattle.number.specs.Layout.{flat, Exact}
use Rattle.lists.specs.All.{All}
use Rattle.number.specs.Layout.Laws.{many_form}
use Rattle.term.specs.declared.Symbol.{Symbol}
use Rattle.term.specs.declared.Symbol.TheVariants as sy
use Rattle.term.specs.Term.{Kind, variable, public, fresh, Term, leaf, app, Terms, nil}
use Rattle.term.specs.Term.{◌&◌, tag_of, count, encode, encodes, Formed, Formeds, Below, InRange, InRanges}
use Rattle.term.specs.Term.Laws.{tag_small}
use Rattle.term.specs.Arity.{arity}
use Rattle.term.specs.Arity.Laws.{no_leaf}
use Rattle.term.specs.Reader.{terms, kind_of, name_at, op_at, symbol_at, build, term_in, term}
use Rattle.term.specs.Reader.Laws.{symbol_leaf, symbol_op, leaf_at, op_at_lem, term_build}

-- ── the two kinds of lists of terms ──
abbrev pub items : Terms → List Term
items nil = []
items (t & ts) = t ∷ items ts

pub terms_items : (ts : Terms) → terms (items ts) ≡ ts
terms_items nil = refl
terms_items (t & ts) = ap (λ (us : Terms). t & us) (terms_items ts)

pub encodes_terms : (ts : List Term) → encodes (terms ts) ≡ flat encode ts
encodes_terms [] = refl
encodes_terms (t ∷ ts) = ap (λ (l : List ℕ). encode t ++ l) (encodes_terms ts)

pub count_terms : (ts : List Term) → count (terms ts) ≡ length ts
count_terms [] = refl
count_terms (t ∷ ts) = ap suc (count_terms ts)

pub kind_tag : (k : Kind) → kind_of (tag_of k) ≡ k
kind_tag variable = refl
kind_tag public = refl
kind_tag fresh = refl

pub tag_kind : (t : ℕ) → t < 3 → tag_of (kind_of t) ≡ t
tag_kind zero h = refl
tag_kind (suc zero) h = refl
tag_kind (suc (suc zero)) h = refl
tag_kind (suc (suc (suc t))) h = absurd (omega arith)

-- formed under a table of slots, its numbers below a limit; and in range
abbrev pub GoodBelow : ℕ → List ℕ → Term → Type 0
GoodBelow limit arities t = Formed (arity arities) t × Below limit t

abbrev pub Good : List ℕ → Term → Type 0
Good = GoodBelow number_limit

all_good : (arities : List ℕ) (ts : List Term) → All (Good arities) ts → Formeds (arity arities) (terms ts) × InRanges (terms ts)
all_good arities [] g = (tt, tt)
all_good arities (t ∷ ts) g = let r = all_good arities ts g.1 in ((g.0.0, r.0), (g.0.1, r.1))

kind_range : (k : Kind) → tag_of k < number_limit
unfolding number_limit
kind_range k = omega (arith, tag_small k)

-- ── the first symbol of a term that stands there ──
module _ (file arities : List ℕ) where
  pub symbol_of_leaf :
      (k : Kind) (n at : ℕ) (rest : List ℕ) → n < number_limit → drop at file ≡ encode (leaf k n) ++ rest
      → symbol_at file arities at ≡ Some (sy.Leaf (tag_of k) n (at + length (encode (leaf k n))))
  symbol_of_leaf k n at rest r e =
      let e' : drop at file ≡ groups (tag_of k) ++ (groups n ++ rest) = e ∙ append_assoc (groups (tag_of k)) (groups n) rest in
      let h = read_back file at (tag_of k) _ (kind_range k) e' in
      let g = read_back file (at + length (groups (tag_of k))) n rest r (behind file at (groups (tag_of k)) (groups n ++ rest) e') in
      let len : at + length (groups (tag_of k)) + length (groups n) ≡ at + length (groups (tag_of k) ++ groups n) =
      omega (arith, length-append (groups (tag_of k)) (groups n)) in
      symbol_leaf file arities at h (tag_small k) ∙ ap (name_at (tag_of k)) g ∙ ap (λ (e : ℕ). Some (sy.Leaf (tag_of k) n e)) len

  pub symbol_of_app :
      (f : ℕ) (ts : Terms) (at : ℕ) (rest : List ℕ) → arity arities f ≡ Some (count ts) → f < number_limit
      → drop at file ≡ encode (app f ts) ++ rest → symbol_at file arities at ≡ Some (sy.Op f (count ts) (at + length (groups f)))
  symbol_of_app f ts at rest w r e =
      let e' : drop at file ≡ groups f ++ (encodes ts ++ rest) = e ∙ append_assoc (groups f) (encodes ts) rest in
      symbol_op file arities at (read_back file at f _ r e') (no_leaf arities f (count ts) w)
      ∙ ap (λ (o : Option ℕ). op_at f o (at + length (groups f))) w

-- its arguments stand behind the tag
pub behind_tag :
    (file : List ℕ) (f : ℕ) (ts : Terms) (at : ℕ) (rest : List ℕ) → drop at file ≡ encode (app f ts) ++ rest
    → drop (at + length (groups f)) file ≡ encodes ts ++ rest
behind_tag file f ts at rest e = behind file at (groups f) (encodes ts ++ rest) (e ∙ append_assoc (groups f) (encodes ts) rest)

module _ (file arities : List ℕ) (bytes : Bytes file) where
  -- ── each such term reads back ──
  mutual
    unfolding many

    pub term_back :
        (t : Term) (at : ℕ) (rest : List ℕ) → Formed (arity arities) t → InRange t → drop at file ≡ encode t ++ rest
        → term file arities at ≡ got t (at + length (encode t))
    term_back (leaf k n) at rest w r e =
        term_build file arities bytes at
        ∙ ap (build (term file arities)) (symbol_of_leaf file arities k n at rest r e)
        ∙ ap (λ (j : Kind). got (leaf j n) (at + length (encode (leaf k n)))) (kind_tag k)
    term_back (app f ts) at rest w r e =
        let m = terms_back ts (at + length (groups f)) rest w.1 r.1 (behind_tag file f ts at rest e) in
        let len : at + length (groups f) + length (encodes ts) ≡ at + length (groups f ++ encodes ts) =
        omega (arith, length-append (groups f) (encodes ts)) in
        term_build file arities bytes at
        ∙ ap (build (term file arities)) (symbol_of_app file arities f ts at rest w.0 r.0 e)
        ∙ then_got (many (term file arities) (count ts) (at + length (groups f))) _ m
        ∙ ap₂ got (ap (app f) (terms_items ts)) len

    pub terms_back :
        (ts : Terms) (at : ℕ) (rest : List ℕ) → Formeds (arity arities) ts → InRanges ts → drop at file ≡ encodes ts ++ rest
        → many (term file arities) (count ts) at ≡ got (items ts) (at + length (encodes ts))
    terms_back nil at rest w r e = ap (got []) (omega arith)
    terms_back (t & ts) at rest w r e =
        let e' : drop at file ≡ encode t ++ (encodes ts ++ rest) = e ∙ append_assoc (encode t) (encodes ts) rest in
        let len : at + length (encode t) + length (encodes ts) ≡ at + length (encode t ++ encodes ts) =
        omega (arith, length-append (encode t) (encodes ts)) in
        many_cons (term file arities) (count ts) at _ _ t (items ts) (term_back t at _ w.0 r.0 e')
        (terms_back ts (at + length (encode t)) rest w.1 r.1 (behind file at (encode t) (encodes ts ++ rest) e'))
        ∙ ap (got (t ∷ items ts)) len

  -- ── what reads is such a term ──
  abbrev Form : (ℕ → Read Term) → Type 0
  Form p = (t : Term) (at e : ℕ) → p at ≡ got t e → Good arities t × Stands file at (encode t) e

  build_form : (p : ℕ → Read Term) → Form p → (t : Term) (at e : ℕ) (y : Option Symbol) → symbol_at file arities at ≡ y → build p y ≡ got t e → Good arities t × Stands
      file at
      (encode t) e
  build_form p form t at e (Some (sy.Leaf u n d)) h g =
      let l = leaf_at file arities at u n d h in
      let a = read_form file bytes at u l.middle l.tag in
      let b = read_form file bytes l.middle n d l.number in
      let q : leaf (kind_of u) n ≡ t = cc in
      let r : d ≡ e = cc in
      let tag = subst (λ (v : ℕ). Stands file at (groups v) l.middle) (sym (tag_kind u l.small)) a.1 in
      subst₂ (λ (x : Term) (k : ℕ). Good arities x × Stands file at (encode x) k) q r ((tt, b.0), stands_join tag b.1)
  build_form p form t at e (Some (sy.Op u k d)) h g =
      cut_got (many p k d) _ g (λ ts f hm g.
      let o = op_at_lem file arities at u k d h in
      let a = read_form file bytes at u d o.tag in
      let m = many_form file p (Good arities) encode form k ts d f hm in
      let w = all_good arities ts m.0.1 in
      let q : app u (terms ts) ≡ t = cc in
      let r : f ≡ e = cc in
      let c : arity arities u ≡ Some (count (terms ts)) = o.takes ∙ ap Some (sym (count_terms ts ∙ m.0.0)) in
      let st = subst (λ (l : List ℕ). Stands file d l f) (sym (encodes_terms ts)) m.1 in
      subst₂ (λ (x : Term) (j : ℕ). Good arities x × Stands file at (encode x) j) q r
      (((c, w.0), (a.0, w.1)), stands_join a.1 st))
  build_form p form t at e None h g = clash (cc)

  depth_form : (depth : ℕ) → Form (term_in depth file arities)
  unfolding term_in
  depth_form zero t at e h = clash (cc)
  depth_form (suc depth) t at e h = build_form (term_in depth file arities) (depth_form depth) t at e (symbol_at file arities at) refl h

  pub term_form : (t : Term) (at e : ℕ) → term file arities at ≡ got t e → Good arities t × Stands file at (encode t) e
  unfolding term
  term_form t at e h = depth_form (length file) t at e h

  -- the reader is exact
  pub term_exact : Exact file (term file arities) (Good arities) encode
  term_exact = record { back = λ t at rest g e. term_back t at rest g.0 g.1 e; form = term_form }
