-- The symbol at a place, from what was read; a term goes forward; a term by its first symbol, however deep it is.
use Prim.Native.Nat.{ℕ, zero, suc, ◌+◌, ◌≤◌, ◌<◌}
use Rattle.std.specs.Prelude.{List, ◌≡◌, length}
use Rattle.std.specs.Prelude.{Option, Some, None}
use Rattle.std.proofs.Math.Path.{refl, ap, sym}
use Rattle.std.proofs.Common.{ap₂, ◌∙◌, arith, lt-ltb, le-ltb}
use Rattle.lists.specs.Choice.{cut_lt, clash}
use Rattle.octets.specs.Head.{Bytes, stands_within}
use Rattle.number.specs.Groups.Laws.{groups_some}
use Rattle.number.specs.Reading.{Read, got, fault, and_then, read_number, many}
use Rattle.number.specs.Reading.Laws.{cut_got}
use Rattle.number.specs.Reading.Many.{many_forward, many_agree}
use Rattle.number.specs.Reading.Numbers.{read_form}
use Rattle.term.specs.declared.Symbol.{Symbol}
use Rattle.term.specs.declared.Symbol.TheVariants as sy
use Rattle.term.specs.Term.{Term, app}
use Rattle.term.specs.Arity.{arity}
use Rattle.term.specs.Reader.{terms, name_at, op_at, symbol_of, symbol_at, build, term_in, term}

-- ── the symbol at a place, case by case ──
module _ (file arities : List ℕ) (at : ℕ) where
  pub symbol_leaf : {t e : ℕ} → read_number file at ≡ got t e → t < 3 → symbol_at file arities at ≡ name_at t (read_number file e)
  unfolding symbol_at
  symbol_leaf {t} {e} h l = ap (symbol_of file arities) h ∙ simp (lt-ltb t 3 l)

  pub symbol_op : {t e : ℕ} → read_number file at ≡ got t e → 3 ≤ t → symbol_at file arities at ≡ op_at t (arity arities t) e
  unfolding symbol_at
  symbol_op {t} {e} h l = ap (symbol_of file arities) h ∙ simp (le-ltb t 3 l)

  pub symbol_none : read_number file at ≡ fault → symbol_at file arities at ≡ None
  unfolding symbol_at
  symbol_none h = ap (symbol_of file arities) h

  -- ── and back ──
  pub record LeafAt (t n e : ℕ) : Type 0 where
    pub middle : ℕ
    pub tag : read_number file at ≡ got t middle
    pub small : t < 3
    pub number : read_number file middle ≡ got n e

  pub record OpAt (t k e : ℕ) : Type 0 where
    pub tag : read_number file at ≡ got t e
    pub big : 3 ≤ t
    pub takes : arity arities t ≡ Some k

  name_from :
      (t n e d u : ℕ) → read_number file at ≡ got t d → t < 3 → (r : Read ℕ) → read_number file d ≡ r → name_at t r ≡ Some (sy.Leaf u n e)
      → LeafAt u n e
  name_from t n e d u h l (got m f) g k =
      let a : t ≡ u = cc in
      let b : m ≡ n = cc in
      let c : f ≡ e = cc in
      record { middle = d; tag = h ∙ ap (λ (x : ℕ). got x d) a; small = omega arith; number = g ∙ ap₂ got b c }
  name_from t n e d u h l fault g k = clash (cc)

  no_name : {C : Type 0} (t u k e : ℕ) (r : Read ℕ) → name_at t r ≡ Some (sy.Op u k e) → C
  no_name t u k e (got m f) h = clash (cc)
  no_name t u k e fault h = clash (cc)

  no_op : {C : Type 0} (t u n e f : ℕ) (o : Option ℕ) → op_at t o f ≡ Some (sy.Leaf u n e) → C
  no_op t u n e f (Some k) h = clash (cc)
  no_op t u n e f None h = clash (cc)

  op_from : (t u k e f : ℕ) → read_number file at ≡ got t f → 3 ≤ t → (o : Option ℕ) → arity arities t ≡ o → op_at t o f ≡ Some (sy.Op u k e) → OpAt u k e
  op_from t u k e f h l (Some j) g q =
      let a : t ≡ u = cc in
      let b : j ≡ k = cc in
      let c : f ≡ e = cc in
      record { tag = h ∙ ap₂ got a c; big = omega arith; takes = ap (arity arities) (sym a) ∙ g ∙ ap Some b }
  op_from t u k e f h l None g q = clash (cc)

  leaf_from : (t n e : ℕ) (r : Read ℕ) → read_number file at ≡ r → symbol_of file arities r ≡ Some (sy.Leaf t n e) → LeafAt t n e
  leaf_from t n e (got u d) h g =
      cut_lt _ _ _ u 3 g
      (λ l g. name_from u n e d t h l (read_number file d) refl g)
      (λ l g. no_op u t n e d (arity arities u) g)
  leaf_from t n e fault h g = clash (cc)

  ops_from : (t k e : ℕ) (r : Read ℕ) → read_number file at ≡ r → symbol_of file arities r ≡ Some (sy.Op t k e) → OpAt t k e
  ops_from t k e (got u d) h g =
      cut_lt _ _ _ u 3 g
      (λ l g. no_name u t k e (read_number file d) g)
      (λ l g. op_from u t k e d h l (arity arities u) refl g)
  ops_from t k e fault h g = clash (cc)

  pub leaf_at : (t n e : ℕ) → symbol_at file arities at ≡ Some (sy.Leaf t n e) → LeafAt t n e
  unfolding symbol_at
  leaf_at t n e h = leaf_from t n e (read_number file at) refl h

  pub op_at_lem : (t k e : ℕ) → symbol_at file arities at ≡ Some (sy.Op t k e) → OpAt t k e
  unfolding symbol_at
  op_at_lem t k e h = ops_from t k e (read_number file at) refl h

-- ── a symbol is in the file ──
pub record Ahead (file : List ℕ) (at e : ℕ) : Type 0 where
  pub after : at < e
  pub within : e ≤ length file

module _ (file arities : List ℕ) (bytes : Bytes file) where
  number_ahead : (at v e : ℕ) → read_number file at ≡ got v e → Ahead file at e
  number_ahead at v e h =
      let f = read_form file bytes at v e h in
      record { after = omega (arith, f.1.ends, groups_some v); within = stands_within f.1 (groups_some v) }

  module _ (at : ℕ) where
    pub leaf_ahead : (t n e : ℕ) → symbol_at file arities at ≡ Some (sy.Leaf t n e) → Ahead file at e
    leaf_ahead t n e h =
        let l = leaf_at file arities at t n e h in
        let a = number_ahead at t l.middle l.tag in
        let b = number_ahead l.middle n e l.number in
        record { after = omega arith; within = b.within }

    pub op_ahead : (t k e : ℕ) → symbol_at file arities at ≡ Some (sy.Op t k e) → Ahead file at e
    op_ahead t k e h = number_ahead at t e (op_at_lem file arities at t k e h).tag

    none_behind : length file ≤ at → (y : Option Symbol) → symbol_at file arities at ≡ y → y ≡ None
    none_behind l (Some (sy.Leaf t n e)) h = let a = leaf_ahead t n e h in absurd (omega arith)
    none_behind l (Some (sy.Op t k e)) h = let a = op_ahead t k e h in absurd (omega arith)
    none_behind l None h = refl

    symbol_behind : length file ≤ at → symbol_at file arities at ≡ None
    symbol_behind l = none_behind l (symbol_at file arities at) refl

  -- ── a term goes forward ──
  build_forward :
      (p : ℕ → Read Term) → ((at : ℕ) (x : Term) (e : ℕ) → p at ≡ got x e → at ≤ e)
      → (at : ℕ) (x : Term) (e : ℕ) (y : Option Symbol) → symbol_at file arities at ≡ y → build p y ≡ got x e → at ≤ e
  build_forward p fw at x e (Some (sy.Leaf t n d)) h g = let a : d ≡ e = cc in let b = leaf_ahead at t n d h in omega arith
  build_forward p fw at x e (Some (sy.Op t k d)) h g =
      cut_got (many p k d) _ g (λ ts f hm g'.
      let a : f ≡ e = cc in let b = op_ahead at t k d h in omega (arith, many_forward p fw k d ts f hm))
  build_forward p fw at x e None h g = clash (cc)

  term_forward : (depth at : ℕ) (x : Term) (e : ℕ) → term_in depth file arities at ≡ got x e → at ≤ e
  unfolding term_in
  term_forward zero at x e h = clash (cc)
  term_forward (suc depth) at x e h = build_forward (term_in depth file arities) (term_forward depth) at x e (symbol_at file arities at) refl h

  -- ── any depth that is enough gives the same ──
  build_same :
      (p q : ℕ → Read Term) (y : Option Symbol) → ((t k e : ℕ) → y ≡ Some (sy.Op t k e) → many p k e ≡ many q k e) → build p y ≡ build q y
  build_same p q (Some (sy.Leaf t n e)) h = refl
  build_same p q (Some (sy.Op t k e)) h = ap (λ (r : Read (List Term)). and_then r (λ ts f. got (app t (terms ts)) f)) (h t k e refl)
  build_same p q None h = refl

  depth_enough : (d c at : ℕ) → length file ≤ d + at → length file ≤ c + at → term_in d file arities at ≡ term_in c file arities at
  unfolding term_in
  depth_enough zero zero at l m = refl
  depth_enough zero (suc c) at l m = sym (ap (build (term_in c file arities)) (symbol_behind at (omega arith)))
  depth_enough (suc d) zero at l m = ap (build (term_in d file arities)) (symbol_behind at (omega arith))
  depth_enough (suc d) (suc c) at l m =
      build_same (term_in d file arities) (term_in c file arities) (symbol_at file arities at) (λ t k e h.
      let a = op_ahead at t k e h in
      many_agree (term_in c file arities) (term_forward c) (term_in d file arities) e
      (λ b n. depth_enough d c b (omega arith) (omega arith)) k e (omega arith))

  -- a term, by its first symbol
  pub term_build : (at : ℕ) → term file arities at ≡ build (term file arities) (symbol_at file arities at)
  unfolding term term_in
  term_build at = depth_enough (length file) (suc (length file)) at (omega arith) (omega arith)
