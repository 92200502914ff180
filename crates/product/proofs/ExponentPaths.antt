-- What `base_of` and `exponent` ask and promise.
use Prim.Native.Nat.{ℕ, ◌+◌, ◌-◌, ◌≤◌, ◌<◌}
use mathlib.Core.Path.{◌≡◌, refl, sym, ap, ap₂, subst, ◌∙◌}
use mathlib.Core.Bool.{true, false}
use mathlib.Core.List.{List, ◌++◌}
use native.Mathlib.Omega.{arith}
use lib.ListN.{length, drop, get_or, length-append}
use Rattle.lists.specs.Asks.{Asks₂, Promises₂}
use Rattle.term.specs.Sizes.{term_room}
use Rattle.term.specs.Tags.{exp_tag}
use Rattle.octets.specs.Head.{head_at, stands_at}
use Rattle.octets.specs.Splice.Prefix.{Wrote, widen}
use Rattle.term.specs.Term.{Term, Terms, nil, ◌&◌, count, encode, encodes}
use Rattle.term.specs.Arity.{arity}
use Rattle.term.specs.Reader.{symbol_at}
use Rattle.message.specs.Functions.{exp}
use Rattle.message.specs.Gather.{powered}
use Rattle.factors.specs.Laid.{Laid, OneAt}
use Rattle.factors.specs.Laid.Laws.{first_of, one_after, one_within, laid_more}
use Rattle.factors.specs.Way.{way_of}
use Rattle.product.specs.Writing.{wrote_same, as_written}
use Rattle.product.specs.Chain.Laws.{encode_two}
use Rattle.product.specs.Powers.{powered_factor}
use Rattle.product.specs.Length.{power_short}
use Rattle.product.specs.Tower.{is_exp, is_factor, bottom, exponents, towered}
use Rattle.product.specs.Tower.Laws.{bottom_exp, exponents_exp, bottom_other, exponents_other, exponents_size, exp_there, none_there}
use Rattle.product.specs.Tower.Laws.{single, factor_there}
use Rattle.product.specs.Asked.{Whole, WholePower}
use Rattle.product.specs.Inner.{Power, Behind, Tower}
use Rattle.product.proofs.ProductPaths.{one}

-- ── base_of ──
-- so far down the tower t: at b stands its exp x, and behind that the exponents us of the exps above
pub record Down (arities src : List ℕ) (at b e : ℕ) (t : Term) : Type 0 where
  pub x : Term
  pub us : Terms
  pub stop : ℕ
  pub here : OneAt arities src b stop x
  pub factors : Laid arities src stop us
  pub ends : e ≡ stop + length (encodes us)
  pub tags : b ≡ at + count us
  pub same_bottom : bottom t ≡ bottom x
  pub same_exponents : exponents t nil ≡ exponents x us

module _ (arities src : List ℕ) (at : ℕ) where
  pub down_begins : Promises₂ (Behind arities src at) (λ (e : ℕ) (t : Term). Down arities src at at e t)
  down_begins e t B = record {
    x = t;
    us = nil;
    stop = e;
    here = B.one;
    factors = record { formed = tt; range = tt; there = stands_at src e (encodes nil) (drop e src) refl };
    ends = omega arith;
    tags = omega arith;
    same_bottom = refl;
    same_exponents = refl;
  }

  module _ (b : ℕ) (D : Promises₂ (Behind arities src at) (λ (e : ℕ) (t : Term). Down arities src at b e t)) where
    pub down_inside : Asks₂ (Behind arities src at) → b < length src
    down_inside J = let d = D J.0 J.1 J.2 in omega (arith, one_after d.here, one_within d.here)

    pub down_next : is_exp (symbol_at src arities b) ≡ true → Promises₂ (Behind arities src at) (λ (e : ℕ) (t : Term). Down arities src at (b + 1) e t)
    down_next h e t B =
        let d = D e t B in
        let I = exp_there B.group d.x d.here h in
        record {
          x = I.x;
          us = I.y & d.us;
          stop = I.args.middle;
          here = I.args.first;
          factors = laid_more I.args.second d.factors;
          ends = omega (arith, d.ends, I.args.second.there.ends, length-append (encode I.y) (encodes d.us));
          tags = omega (arith, d.tags);
          same_bottom = d.same_bottom ∙ ap bottom I.is ∙ bottom_exp I.x I.y;
          same_exponents = d.same_exponents ∙ ap (λ (u : Term). exponents u d.us) I.is ∙ exponents_exp I.x I.y d.us;
        }

    pub down_ends : is_exp (symbol_at src arities b) ≡ false → Promises₂ (Behind arities src at) (λ (e : ℕ) (t : Term). Tower arities src at b e t)
    down_ends h e t B =
        let d = D e t B in
        let n = none_there B.group d.x d.here h in
        let p : bottom t ≡ d.x = d.same_bottom ∙ bottom_other d.x n in
        let q : exponents t nil ≡ d.us = d.same_exponents ∙ exponents_other d.x d.us n in
        record {
          stop = d.stop;
          base = rw p d.here;
          factors = rw q d.factors;
          ends = rw q d.ends;
          tags = rw q d.tags;
        }

-- ── exponent ──
module _ (arities out : List ℕ) (o e : ℕ) where
  module _ (x y : Term) (R : Whole arities out o e (exp x y)) where
    tower : Behind arities out o e (exp x y)
    tower = record { group = R.group; one = one arities out o e (exp x y) R; short = R.short }

    tag : get_or out o 0 ≡ exp_tag
    tag = (head_at out o 10 _ (R.stands.there ∙ ap (λ (l : List ℕ). l ++ drop e out) (encode_two 10 (omega arith) x y))).here

  pub tower_asks : Asks₂ (WholePower arities out o e) → Asks₂ (Behind arities out o)
  tower_asks J = (_, _, tower J.0 J.1 J.2)

  module _ (b : ℕ) (T : Promises₂ (Behind arities out o) (λ (e : ℕ) (t : Term). Tower arities out o b e t)) where
    module _ (x y : Term) (R : Whole arities out o e (exp x y)) where
      abbrev t : Term
      t = exp x y

      at_base : Tower arities out o b e t
      at_base = T e t (tower x y R)

      base_behind : Behind arities out b at_base.stop (bottom t)
      base_behind = record { group = R.group; one = at_base.base; short = R.short }

      some : 1 ≤ count (exponents t nil)
      some = rw (exponents_exp x y nil) (exponents_size x (y & nil)).0

    pub base_asks : Asks₂ (WholePower arities out o e) → Asks₂ (Behind arities out b)
    base_asks J = (_, _, base_behind J.0 J.1 J.2)

    pub base_after : Asks₂ (WholePower arities out o e) → o ≤ b
    base_after J = omega (arith, (at_base J.0 J.1 J.2).tags)

    module _ (z : ℕ) (K : Promises₂ (Behind arities out b) (λ (e : ℕ) (t : Term). z ≡ e)) where
      module _ (x y : Term) (R : Whole arities out o e (exp x y)) where
        power : Power arities out o b z (b - o) e (bottom (exp x y)) (exponents (exp x y) nil)
        power =
            let A = at_base x y R in
            let s : z ≡ A.stop = K _ _ (base_behind x y R) in
            let n = exponents_size (exp x y) nil in
            record {
              tag = tag x y R;
              before = omega (arith, A.tags, some x y R);
              base = rw s A.base;
              factors = rw s A.factors;
              ends = rw s A.ends;
              many = omega (arith, A.tags);
              few = omega (arith, n.1, R.few);
              room = R.room;
              short = R.short;
              fits = omega (
                arith,
                A.ends,
                A.tags,
                A.base.there.ends,
                power_short (arity arities) R.group (bottom (exp x y)) (exponents (exp x y) nil) (some x y R) A.factors.formed,
              );
              small = omega (arith, R.small, R.stands.ends);
            }

      pub power_asked : Asks₂ (WholePower arities out o e) → Asks₂ (Power arities out o b z (b - o) e)
      power_asked J = (_, _, power J.0 J.1 J.2)

      -- one exp whose exponent is a factor
      pub factor_done : b - o ≡ 1 → is_factor (way_of (symbol_at out arities z)) ≡ true → Promises₂ (WholePower arities out o e)
          (λ (x y : Term). Wrote (e + term_room) out o out e (encode (towered (exp x y))))
      unfolding towered
      factor_done h f x y R =
          let A = at_base x y R in
          let s : z ≡ A.stop = K _ _ (base_behind x y R) in
          let q = single (arity arities) R.group x y R.formed.1.0 (omega (arith, A.tags)) in
          let L : Laid arities out z (y & nil) = subst (λ (ts : Terms). Laid arities out z ts) q.1 (rw s A.factors) in
          let p : powered (bottom (exp x y)) (exponents (exp x y) nil) ≡ exp x y =
          ap₂ powered q.0 q.1 ∙ powered_factor x y (factor_there y (first_of L) f) in
          wrote_same (ap encode (sym p)) (widen (e + term_room) (omega arith) (as_written out o e (encode (exp x y)) R.stands))

      pub tower_done : (out' : List ℕ) (r : ℕ) → Promises₂ (Power arities out o b z (b - o) e)
          (λ (t : Term) (ts : Terms). Wrote (e + term_room) out o out' r (encode (powered t ts))) → Promises₂ (WholePower arities out o e)
          (λ (x y : Term). Wrote (e + term_room) out o out' r (encode (towered (exp x y))))
      unfolding towered
      tower_done out' r D x y R = D _ _ (power x y R)
