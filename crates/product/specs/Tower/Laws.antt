-- Towers of exps: at an exp and at any other term, how large, and what the code answers where one stands.
use Rattle.std.specs.Prelude.{ℕ, ◌+◌, ◌≤◌, ◌≡◌, ◌≢◌, Bool, true, false, cond, List, eqb, length, drop}
use Rattle.std.proofs.Math.Path.{refl}
use Rattle.std.proofs.Common.{sym, ap, ◌∙◌, subst, arith, length-append, eqb-true, ne_eqb}
use Rattle.std.specs.Prelude.{Option, Some}
use Rattle.std.proofs.lemmas.Bool.{eqb-false}
use Rattle.term.specs.Tags.{exp_tag}
use Rattle.lists.specs.Choice.{clash}
use Rattle.number.specs.Groups.{groups}
use Rattle.number.specs.Groups.Laws.{groups_one}
use Rattle.term.specs.Term.{Term, leaf, app, Terms, nil, ◌&◌, count, encode, encodes, symbols, symbolss, Formed}
use Rattle.term.specs.Arity.{arity}
use Rattle.term.specs.Reader.{symbol_at}
use Rattle.term.specs.Reader.Exact.{symbol_of_leaf, symbol_of_app}
use Rattle.message.specs.Functions.{exp}
use Rattle.message.specs.Rules.{FitArities}
use Rattle.message.specs.Product.{Exps}
use Rattle.message.specs.Canon.{Binary, as_binary}
use Rattle.message.specs.Canon.Views.{tag, AsBinary, is_binary, is_not, binary_view}
use Rattle.message.specs.Gather.{enter, sign, pour}
use Rattle.factors.specs.declared.Way.{Way}
use Rattle.factors.specs.declared.Way.TheVariants as way
use Rattle.factors.specs.Way.{way_of}
use Rattle.factors.specs.Way.Laws.{way_name, way_factor}
use Rattle.factors.specs.Laid.{Laid, OneAt, also}
use Rattle.factors.specs.Laid.Laws.{first_of, others_of, args_of, also_count, also_symbols}
use Rattle.product.specs.Tower.{is_exp, is_factor, bottom, bottoms, exponents, spread}

-- ── at an exp ──
module _ (x y : Term) where
  pub bottom_exp : bottom (exp x y) ≡ bottom x
  unfolding bottom
  bottom_exp = refl

  pub exponents_exp : (us : Terms) → exponents (exp x y) us ≡ exponents x (y & us)
  unfolding exponents
  exponents_exp us = refl

-- ── at any other term ──
pub bottom_other : (t : Term) → ((ts : Terms) → t ≢ app exp_tag ts) → bottom t ≡ t
unfolding bottom
bottom_other (leaf k n) h = refl
bottom_other (app f ts) h = ap (λ (b : Bool). cond b (bottoms ts (app f ts)) (app f ts)) (ne_eqb f exp_tag (λ e. h ts (ap (λ (g : ℕ). app g ts) e)))

pub exponents_other : (t : Term) (us : Terms) → ((ts : Terms) → t ≢ app exp_tag ts) → exponents t us ≡ us
unfolding exponents
exponents_other (leaf k n) us h = refl
exponents_other (app f ts) us h = ap (λ (b : Bool). cond b (spread ts us) us) (ne_eqb f exp_tag (λ e. h ts (ap (λ (g : ℕ). app g ts) e)))

-- ── how many and how large ──
-- the others are still there, and with the exponents they have no more symbols than with the tower
mutual
  unfolding exponents

  pub exponents_size : (t : Term) (us : Terms) → (count us ≤ count (exponents t us)) × (symbolss (exponents t us) ≤ symbols t + symbolss us)
  exponents_size (leaf k n) us = (omega arith, omega arith)
  exponents_size (app f ts) us = go (eqb f exp_tag) (spread_size ts us)
    where
      go : (b : Bool) → (count us ≤ count (spread ts us)) × (symbolss (spread ts us) ≤ symbolss ts + symbolss us)
          → (count us ≤ count (cond b (spread ts us) us)) × (symbolss (cond b (spread ts us) us) ≤ symbols (app f ts) + symbolss us)
      go true h = (h.0, omega (arith, h.1))
      go false h = (omega arith, omega arith)

  spread_size : (ts us : Terms) → (count us ≤ count (spread ts us)) × (symbolss (spread ts us) ≤ symbolss ts + symbolss us)
  spread_size nil us = (omega arith, omega arith)
  spread_size (x & ts) us =
      let h = exponents_size x (also ts us) in
      (omega (arith, h.0, also_count ts us), omega (arith, h.1, also_symbols ts us))

-- ── one exp ──
-- no exp of two arguments, and so, as it is well formed, no exp
pub no_exp : (ar : ℕ → Option ℕ) → FitArities ar → (t : Term) → Formed ar t → ((x y : Term) → t ≢ exp x y) → (ts : Terms) → t ≢ app exp_tag ts
no_exp ar g t w n ts q = go ts (let a : Some (count ts) ≡ Some 2 = sym (subst (Formed ar) q w).0 ∙ g.exp_arity in cc) q
  where
    go : (ts : Terms) → count ts ≡ 2 → t ≢ app exp_tag ts
    go nil c q = absurd (omega arith)
    go (x & nil) c q = absurd (omega arith)
    go (x & (y & nil)) c q = n x y q
    go (x & (y & (z & ts))) c q = absurd (omega arith)

-- a tower of one exponent is an exp of its base
pub single :
    (ar : ℕ → Option ℕ) → FitArities ar → (x y : Term) → Formed ar x → count (exponents (exp x y) nil) ≡ 1
    → (bottom (exp x y) ≡ x) × (exponents (exp x y) nil ≡ y & nil)
single ar g x y w h = go x (as_binary exp_tag x) (binary_view exp_tag x) w h
  where
    go : (x : Term) (o : Binary) → AsBinary exp_tag x o → Formed ar x → count (exponents (exp x y) nil) ≡ 1
        → (bottom (exp x y) ≡ x) × (exponents (exp x y) nil ≡ y & nil)
    go x o (is_binary a b) w h =
        let e = exponents_exp (exp a b) y nil ∙ exponents_exp a b (y & nil) in
        absurd (omega (arith, ap count e, (exponents_size a (b & y & nil)).0))
    go x o (is_not n) w h =
        let m = no_exp ar g x w n in
        (bottom_exp x y ∙ bottom_other x m, exponents_exp x y nil ∙ exponents_other x (y & nil) m)

-- what the code answers where a factor stands
pub factor_there :
    {arities src : List ℕ} {at e : ℕ} (t : Term) → OneAt arities src at e t → is_factor (way_of (symbol_at src arities at)) ≡ true
    → (l : Exps) → pour false t l ≡ enter t (sign false) l
factor_there {arities} {src} {at} t O = go (way_of (symbol_at src arities at)) refl
  where
    go : (w : Way) → way_of (symbol_at src arities at) ≡ w → is_factor w ≡ true → (l : Exps) → pour false t l ≡ enter t (sign false) l
    go (way.On c n) q h = clash (cc)
    go (way.Turn c n) q h = clash (cc)
    go (way.Leaf n) q h = way_name false n t O q
    go way.Factor q h = way_factor false t O q

-- ── the two arguments of an exp ──
pub record Args (arities src : List ℕ) (at e : ℕ) (x y : Term) : Type 0 where
  pub middle : ℕ
  pub first : OneAt arities src (at + 1) middle x
  pub second : OneAt arities src middle e y

pub args_two : {arities src : List ℕ} {at e : ℕ} (x y : Term) → OneAt arities src at e (exp x y) → Args arities src at e x y
args_two {arities} {src} {at} {e} x y O =
    let g : length (groups 10) ≡ 1 = ap length (groups_one 10 (omega arith)) in
    let L = subst (λ (j : ℕ). Laid arities src (at + j) (x & y & nil)) g (args_of O) in
    let M = others_of L in
    let ends : at + 1 + length (encode x) + length (encode y) ≡ e =
    omega (
      arith,
      O.there.ends,
      length-append (groups 10) (encodes (x & y & nil)),
      length-append (encode x) (encodes (y & nil)),
      length-append (encode y)
          (encodes nil),
    ) in
    record {
      middle = at + 1 + length (encode x);
      first = first_of L;
      second = subst (λ (j : ℕ). OneAt arities src (at + 1 + length (encode x)) j y) ends (first_of M);
    }

-- ── what the code answers where a term stands ──
-- it is an exp
pub record Inner (arities src : List ℕ) (at e : ℕ) (t : Term) : Type 0 where
  pub x : Term
  pub y : Term
  pub is : t ≡ exp x y
  pub args : Args arities src at e x y

module _ {arities src : List ℕ} {at e : ℕ} (group : FitArities (arity arities)) where
  exp_leaf : (k : _) (n : ℕ) → OneAt arities src at e (leaf k n) → is_exp (symbol_at src arities at) ≡ false
  exp_leaf k n O = ap is_exp (symbol_of_leaf src arities k n at (drop e src) O.range O.there.there)

  exp_app : (f : ℕ) (ts : Terms) → OneAt arities src at e (app f ts) → is_exp (symbol_at src arities at) ≡ eqb f exp_tag
  exp_app f ts O = ap is_exp (symbol_of_app src arities f ts at (drop e src) O.formed.0 O.range.0 O.there.there)

  inner_of : (ts : Terms) → OneAt arities src at e (app exp_tag ts) → count ts ≡ 2 → Inner arities src at e (app exp_tag ts)
  inner_of nil O c = absurd (omega arith)
  inner_of (x & nil) O c = absurd (omega arith)
  inner_of (x & (y & nil)) O c = record { x = x; y = y; is = refl; args = args_two x y O }
  inner_of (x & (y & (z & ts))) O c = absurd (omega arith)

  pub exp_there : (t : Term) → OneAt arities src at e t → is_exp (symbol_at src arities at) ≡ true → Inner arities src at e t
  exp_there (leaf k n) O h = let z : true ≡ false = sym h ∙ exp_leaf k n O in clash (cc)
  exp_there (app f ts) O h =
      let q : f ≡ exp_tag = eqb-true f exp_tag (sym (exp_app f ts O) ∙ h) in
      subst (λ (g : ℕ). OneAt arities src at e (app g ts) → Inner arities src at e (app g ts)) (sym q)
      (λ O.
      let a : Some (count ts) ≡ Some 2 = sym O.formed.0 ∙ group.exp_arity in
      inner_of ts O (cc)) O

  -- it is none
  pub none_there : (t : Term) → OneAt arities src at e t → is_exp (symbol_at src arities at) ≡ false → (ts : Terms) → t ≢ app exp_tag ts
  none_there (leaf k n) O h ts q = clash (cc)
  none_there (app f ts) O h us q = eqb-false f exp_tag (sym (exp_app f ts O) ∙ h) (tag q)
