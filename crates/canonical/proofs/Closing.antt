-- A function of made arguments, by its tag.
use Prim.Native.Nat.{ℕ, ◌+◌}
use mathlib.Core.List.{List}
use mathlib.Core.Path.{◌≡◌, refl, ap, sym, ◌∙◌, subst}
use mathlib.Core.Logic.{◌≢◌}
use mathlib.Core.Bool.{true, false}
use Rattle.std.proofs.Common.{Some}
use native.Mathlib.Omega.{arith}
use Rattle.term.specs.Sizes.{term_room}
use Rattle.term.specs.Tags.{exp_tag, one_tag, inv_tag, mul_tag}
use Rattle.lists.specs.Asks.{Asks, Asks₂, Promises, Promises₂}
use Rattle.lists.specs.Choice.{clash}
use Rattle.octets.specs.Splice.Prefix.{Wrote, widen}
use Rattle.term.specs.Term.{Term, app, Terms, nil, ◌&◌, count, encode}
use Rattle.term.specs.Arity.{arity}
use Rattle.message.specs.Table.{rules}
use Rattle.message.proofs.Table.Laws.{Ruleless}
use Rattle.message.specs.Functions.{exp}
use Rattle.message.specs.Canon.{apply}
use Rattle.message.specs.Gather.{multiplied}
use Rattle.message.proofs.Made.{made_free}
use Rattle.product.specs.Asked as product
use Rattle.product.specs.Tower.{towered}
use Rattle.product.specs.Writing.{as_written}
use Rattle.canonical.specs.Builtins.{group}
use Rattle.canonical.specs.Size.{bytes_few}
use Rattle.canonical.specs.Loose.{is_product, stays, worked, closed}
use Rattle.canonical.specs.Loose.Laws.{worked_product, worked_other, worked_exp, closed_stays, closed_worked}
use Rattle.canonical.specs.Loose.Laws.{worked_out_product, worked_out_exp, worked_out_other}
use Rattle.canonical.specs.Inner.{Built}
use Rattle.canonical.proofs.Parts.{two_args}

module _ (arities out : List ℕ) (o e : ℕ) where
  -- as products and powers are asked for
  as_asked : (f : ℕ) (us : Terms) → Built arities out o e f us → product.Whole arities out o e (app f us)
  as_asked f us b =
      let s = b.small in
      record {
        group = group arities b.table;
        formed = b.here.formed;
        range = b.here.range;
        stands = b.here.stands;
        few = b.small;
        small = omega (arith, bytes_few (app f us) b.here.range, s);
        room = b.room;
        short = b.short;
      }

  -- ── the tag is g ──
  module _ (tag g : ℕ) (is : tag ≡ g) where
    pub as_tag : Asks (Built arities out o e tag) → Asks (Built arities out o e g)
    as_tag w = subst (λ (f : ℕ). (Asks (Built arities out o e f))) is w

    pub by_tag : (out' : List ℕ) (r : ℕ) → Promises (Built arities out o e g) (λ (us : Terms). Wrote e out o out' r (encode (apply rules g us)))
        → Promises (Built arities out o e tag) (λ (us : Terms). Wrote e out o out' r (encode (apply rules tag us)))
    by_tag out' r h = subst (λ (f : ℕ). (Promises (Built arities out o e f) (λ (us : Terms). Wrote e out o out' r (encode (apply rules f us))))) (sym is) h

  -- ── exp ──
  record Exp (us : Terms) : Type 0 where
    x : Term
    y : Term
    is : us ≡ x & (y & nil)
    built : Built arities out o e exp_tag (x & (y & nil))

  exp_of : (us : Terms) → Built arities out o e exp_tag us → Exp us
  exp_of us b =
      let n : Some (count us) ≡ Some 2 = sym b.here.formed.0 ∙ (group arities b.table).exp_arity in
      let w = two_args us (cc) in
      record { x = w.0; y = w.1; is = w.2; built = subst (Built arities out o e exp_tag) w.2 b }

  pub exp_asks : Asks (Built arities out o e exp_tag) → Asks₂ (product.WholePower arities out o e)
  exp_asks (us, b) = let p = exp_of us b in (p.x, p.y, as_asked exp_tag (p.x & (p.y & nil)) p.built)

  -- ── a function without a rule ──
  pub free_done :
      (tag : ℕ) → (is_product tag ≡ false) × (tag ≢ exp_tag) × Asks (Built arities out o e tag) → Ruleless tag → Promises (Built arities out o e tag)
      (λ (us : Terms). Wrote e out o out e (encode (apply rules tag us)))
  free_done tag (p, d, asked) n us h =
      let other : (g : ℕ) → is_product g ≡ true → tag ≢ g =
      λ g t q. let z : true ≡ false = sym t ∙ ap is_product (sym q) ∙ p in clash (cc) in
      let q : apply rules tag us ≡ app tag us = made_free (arity arities) (group arities h.table) tag us
      (record { no_one = other one_tag refl; no_exp = d; no_inv = other inv_tag refl; no_mul = other mul_tag refl }) n in
      subst (λ (t : Term). Wrote e out o out e (encode t)) (sym q) (as_written out o e (encode (app tag us)) h.here.stands)

  -- ── inside the function around ──
  module _ (tag around : ℕ) where
    pub stays_done : stays around tag ≡ true → Promises (Built arities out o e tag)
        (λ (us : Terms). Wrote (e + term_room) out o out e (encode (closed around tag us)))
    stays_done p us b =
        subst (λ (t : Term). Wrote (e + term_room) out o out e (encode t)) (sym (closed_stays tag us around p))
        (widen (e + term_room) (omega arith) (as_written out o e (encode (app tag us)) b.here.stands))

    -- what is worked out is written
    worked_done :
        stays around tag ≡ false → (out' : List ℕ) (r : ℕ) (us : Terms) (t : Term) → worked tag us ≡ t
        → Wrote (e + term_room) out o out' r (encode t) → Wrote (e + term_room) out o out' r (encode (closed around tag us))
    worked_done p out' r us t q w =
        subst (λ (u : Term). Wrote (e + term_room) out o out' r (encode u)) (sym (closed_worked tag us around p ∙ q)) w

    pub product_asks : Asks (Built arities out o e tag) → Asks (product.Whole arities out o e)
    product_asks (us, b) = (app tag us, as_asked tag us b)

    pub product_done :
        is_product around ≡ false → is_product tag ≡ true → (out' : List ℕ) (r : ℕ) → Promises (product.Whole arities out o e)
        (λ (t : Term). Wrote (e + term_room) out o out' r (encode (multiplied (t & nil))))
        → Promises (Built arities out o e tag) (λ (us : Terms). Wrote (e + term_room) out o out' r (encode (closed around tag us)))
    product_done p q out' r h us b =
        worked_done (worked_out_product around tag p q) out' r us (multiplied (app tag us & nil)) (worked_product tag us q) (h (app tag us) (as_asked tag us b))

    pub exp_done :
        around ≢ exp_tag → tag ≡ exp_tag → (out' : List ℕ) (r : ℕ) → Promises₂ (product.WholePower arities out o e)
        (λ (x y : Term). Wrote (e + term_room) out o out' r (encode (towered (exp x y))))
        → Promises (Built arities out o e tag) (λ (us : Terms). Wrote (e + term_room) out o out' r (encode (closed around tag us)))
    exp_done n i out' r h us b =
        let p = exp_of us (subst (λ (f : ℕ). Built arities out o e f us) i b) in
        let q : worked tag us ≡ towered (exp p.x p.y) =
        ap (λ (f : ℕ). worked f us) i ∙ worked_exp us ∙ ap (λ (z : Terms). towered (app exp_tag z)) p.is in
        worked_done (worked_out_exp around tag n i) out' r us (towered (exp p.x p.y)) q
        (h p.x p.y (as_asked exp_tag (p.x & (p.y & nil)) p.built))

    pub other_done :
        is_product tag ≡ false → tag ≢ exp_tag → (out' : List ℕ) (r : ℕ) → Promises (Built arities out o e tag)
        (λ (us : Terms). Wrote e out o out' r (encode (apply rules tag us)))
        → Promises (Built arities out o e tag) (λ (us : Terms). Wrote (e + term_room) out o out' r (encode (closed around tag us)))
    other_done p n out' r h us b =
        worked_done (worked_out_other around tag p n) out' r us (apply rules tag us) (worked_other tag us p n) (widen (e + term_room) (omega arith) (h us b))
