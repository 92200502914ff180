-- What is made is the canonical form of the filled-in term; inside a product it has that form's factors, as the base of an exp it gives that form's powers;
-- and it is no larger than the filled-in term.
use Rattle.std.specs.Prelude.{ℕ, suc, ◌≤◌, ◌≡◌, ◌≢◌, ◌⊎◌, Bool, ◌&&◌, ◌||◌, length, eqb}
use Rattle.std.proofs.Math.Path.{refl, sym, ap, ap₂}
use Rattle.std.proofs.Common.{◌∙◌, subst, inl, inr, ⊎_elim, arith, length-append, eq-eqb, ne_eqb, eqb-true}
use Rattle.std.proofs.Math.Bool.{true, false, cond}
use Rattle.std.specs.Prelude.{Option, Some}
use Rattle.term.specs.Tags.{exp_tag, mul_tag}
use Rattle.lists.specs.Choice.{clash}
use Rattle.number.specs.Groups.{groups}
use Rattle.term.specs.Term.{variable, public, fresh, Term, leaf, app, Terms, nil, ◌&◌, Occurs}
use Rattle.term.specs.Term.{Occurss, count, encode, encodes, symbols, symbolss, Formed, Formeds, InRange, InRanges}
use Rattle.message.specs.Product.{Exps, build}
use Rattle.message.specs.Substitution.{sub, subs}
use Rattle.message.specs.Rules.{Ordinary, FitArities, Theory, Irreducible}
use Rattle.message.specs.Table.{rules}
use Rattle.message.proofs.Table.Laws.{theory}
use Rattle.message.specs.Parts.{add, neg, Role, role, parts, sums}
use Rattle.message.proofs.Parts.Ascending.{sums_asc, asc_neg}
use Rattle.message.specs.Parts.Entries.{Atom, entries_neg, sums_atoms}
use Rattle.message.proofs.Parts.Laws.{formed_sums, parts_build}
use Rattle.message.specs.Canonical.{CanonicalBy}
use Rattle.message.specs.Canon.{apply, canon}
use Rattle.message.proofs.Canon.Canonical.{arity_count, canon_canonical}
use Rattle.message.proofs.Canon.Keeps.{canons_formed}
use Rattle.message.specs.Canon.Views.{RoleOf, is_one, is_exp, is_inv, is_mul, is_plain, role_of}
use Rattle.message.proofs.Theorems.{canon_is_canonical, canonical_stays, canon_is_formed, canon_is_in_range, fewer_symbols, fewer_bytes}
use Rattle.message.specs.Gather.{multiplied, powered}
use Rattle.message.proofs.Gather.Same.{same_term}
use Rattle.message.specs.Filled.{filled, filleds}
use Rattle.message.specs.Filled.Laws.{filled_canon, filleds_canon}
use Rattle.product.specs.Tower.{towered}
use Rattle.product.specs.Tower.Laws.{bottom_exp, exponents_exp}
use Rattle.canonical.specs.Loose.{is_product, stays, beside, worked, closed, made, mades}
use Rattle.canonical.specs.Loose.Powers.{SamePowers, powers_own, powers_exp}

-- ── the product functions ──
pub ordinary_product : (f : ℕ) → Ordinary f → is_product f ≡ false
ordinary_product f o = simp (ne_eqb f 3 o.no_one, ne_eqb f 11 o.no_inv, ne_eqb f 12 o.no_mul)

product_not_exp : (f : ℕ) → is_product f ≡ true → f ≢ exp_tag
product_not_exp f p e = let z : is_product exp_tag ≡ true = ap is_product (sym e) ∙ p in clash (cc)

-- ── by the function and the one around ──
module _ (f : ℕ) (us : Terms) where
  pub worked_product : is_product f ≡ true → worked f us ≡ multiplied (app f us & nil)
  unfolding worked
  worked_product e = ap (λ (b : Bool). cond b (multiplied (app f us & nil)) (cond (eqb f exp_tag) (towered (app f us)) (apply rules f us))) e

  pub worked_other : is_product f ≡ false → f ≢ exp_tag → worked f us ≡ apply rules f us
  unfolding worked
  worked_other e n =
      ap₂ (λ (b c : Bool). cond b (multiplied (app f us & nil)) (cond c (towered (app f us)) (apply rules f us))) e (ne_eqb f exp_tag n)

  module _ (g : ℕ) where
    pub closed_stays : stays g f ≡ true → closed g f us ≡ app f us
    unfolding closed
    closed_stays e = ap (λ (b : Bool). cond b (app f us) (worked f us)) e

    pub closed_worked : stays g f ≡ false → closed g f us ≡ worked f us
    unfolding closed
    closed_worked e = ap (λ (b : Bool). cond b (app f us) (worked f us)) e

pub worked_exp : (us : Terms) → worked exp_tag us ≡ towered (app exp_tag us)
unfolding worked
worked_exp us = refl

-- ── where a function stays as it stands ──
pub stays_product : (g f : ℕ) → is_product g ≡ true → is_product f ≡ true → stays g f ≡ true
stays_product g f p q = ap₂ (λ (a b : Bool). (a && b) || (eqb g exp_tag && eqb f exp_tag)) p q

pub stays_base : (g f : ℕ) → g ≡ exp_tag → f ≡ exp_tag → stays g f ≡ true
stays_base g f p q = ap₂ stays p q

-- the outermost
and_false : (a : Bool) → a && false ≡ false
and_false true = refl
and_false false = refl

module _ (g f : ℕ) where
  pub worked_out_product : is_product g ≡ false → is_product f ≡ true → stays g f ≡ false
  worked_out_product p q =
      ap₂ (λ (a d : Bool). (a && is_product f) || (eqb g exp_tag && d)) p (ne_eqb f exp_tag (product_not_exp f q)) ∙ and_false (eqb g exp_tag)

  pub worked_out_exp : g ≢ exp_tag → f ≡ exp_tag → stays g f ≡ false
  worked_out_exp n q =
      ap₂ (λ (b c : Bool). (is_product g && b) || (c && eqb f exp_tag)) (ap is_product q) (ne_eqb g exp_tag n)
      ∙ ap (λ (a : Bool). a || false) (and_false (is_product g))

  pub worked_out_other : is_product f ≡ false → f ≢ exp_tag → stays g f ≡ false
  worked_out_other p n =
      ap₂ (λ (b d : Bool). (is_product g && b) || (eqb g exp_tag && d)) p (ne_eqb f exp_tag n)
      ∙ ap₂ ◌||◌ (and_false (is_product g)) (and_false (eqb g exp_tag))

-- a function stays inside a product, being a product function, or as the base of an exp, being an exp
stays_so : (g f : ℕ) → stays g f ≡ true → ((is_product g ≡ true) × (is_product f ≡ true)) ⊎ ((g ≡ exp_tag) × (f ≡ exp_tag))
stays_so g f e = go (is_product g) (is_product f) (eqb g exp_tag) (eqb f exp_tag) e (eqb-true g exp_tag) (eqb-true f exp_tag)
  where
    go :
        (a b c d : Bool) → (a && b) || (c && d) ≡ true → (c ≡ true → g ≡ exp_tag) → (d ≡ true → f ≡ exp_tag)
        → ((a ≡ true) × (b ≡ true)) ⊎ ((g ≡ exp_tag) × (f ≡ exp_tag))
    go true true c d e p q = inl (refl, refl)
    go true false true true e p q = inr (p refl, q refl)
    go true false true false e p q = clash (cc)
    go true false false d e p q = clash (cc)
    go false b true true e p q = inr (p refl, q refl)
    go false b true false e p q = clash (cc)
    go false b false d e p q = clash (cc)

pub beside_base : (g : ℕ) → g ≡ exp_tag → beside g ≡ mul_tag
beside_base g e = ap (λ (b : Bool). cond b mul_tag g) (eq-eqb g exp_tag e)

pub beside_same : (g : ℕ) → g ≢ exp_tag → beside g ≡ g
beside_same g n = ap (λ (b : Bool). cond b mul_tag g) (ne_eqb g exp_tag n)

-- ── a term in range filled in with values in range is in range ──
module _ (θ : ℕ → Term) where
  mutual
    pub sub_range : (t : Term) → InRange t → ((v : ℕ) → Occurs variable v t → InRange (θ v)) → InRange (sub θ t)
    sub_range (leaf variable n) r h = h n refl
    sub_range (leaf public n) r h = r
    sub_range (leaf fresh n) r h = r
    sub_range (app f ts) r h = (r.0, subs_range ts r.1 h)

    pub subs_range : (ts : Terms) → InRanges ts → ((v : ℕ) → Occurss variable v ts → InRange (θ v)) → InRanges (subs θ ts)
    subs_range nil r h = tt
    subs_range (t & ts) r h = (sub_range t r.0 (λ v o. h v (inl o)), subs_range ts r.1 (λ v o. h v (inr o)))

-- ── no larger ──
-- t is formed and in range if u is, and has no more symbols and bytes
pub record NoLarger (ar : ℕ → Option ℕ) (t u : Term) : Type 0 where
  pub formed : Formed ar u → Formed ar t
  pub range : InRange u → InRange t
  pub symbols_less : symbols t ≤ symbols u
  pub bytes_less : length (encode t) ≤ length (encode u)

pub record NoLargers (ar : ℕ → Option ℕ) (ts us : Terms) : Type 0 where
  pub as_many : count ts ≡ count us
  pub formeds : Formeds ar us → Formeds ar ts
  pub ranges : InRanges us → InRanges ts
  pub symbolss_less : symbolss ts ≤ symbolss us
  pub bytess_less : length (encodes ts) ≤ length (encodes us)

module _ (ar : ℕ → Option ℕ) where
  pub app_size : (f : ℕ) (ts us : Terms) → NoLargers ar ts us → NoLarger ar (app f ts) (app f us)
  app_size f ts us n = record {
    formed = λ w. (w.0 ∙ ap Some (sym n.as_many), n.formeds w.1);
    range = λ r. (r.0, n.ranges r.1);
    symbols_less = omega (arith, n.symbolss_less);
    bytes_less = omega (arith, n.bytess_less, length-append (groups f) (encodes ts), length-append (groups f) (encodes us));
  }

  none_size : NoLargers ar nil nil
  none_size =
      record { as_many = refl; formeds = λ w. w; ranges = λ r. r; symbolss_less = omega arith; bytess_less = omega arith }

  more_size : (t u : Term) (ts us : Terms) → NoLarger ar t u → NoLargers ar ts us → NoLargers ar (t & ts) (u & us)
  more_size t u ts us a b = record {
    as_many = ap suc b.as_many;
    formeds = λ w. (a.formed w.0, b.formeds w.1);
    ranges = λ r. (a.range r.0, b.ranges r.1);
    symbolss_less = omega (arith, a.symbols_less, b.symbolss_less);
    bytess_less = omega (arith, a.bytes_less, b.bytess_less, length-append (encode t) (encodes ts), length-append (encode u) (encodes us));
  }

-- ── what is made ──
module _ (ar : ℕ → Option ℕ) (g : FitArities ar) (θ : ℕ → Term) where
  abbrev σ : Theory
  σ = theory ar g

  -- u is what is made of a term of canonical form c right inside the function f
  pub record Made (f : ℕ) (u c : Term) : Type 0 where
    -- the form itself
    pub is : is_product f ≡ false → f ≢ exp_tag → u ≡ c
    -- in a product its factors
    pub factors : is_product f ≡ true → parts u ≡ parts c
    -- as the base of an exp what gives its powers
    pub base : f ≡ exp_tag → SamePowers ar g u c

  abbrev Mades : ℕ → Terms → Type 0
  Mades f nil = Unit {0}
  Mades f (t & ts) = Made f (made f θ t) (filled θ t) × Mades (beside f) ts

  pub record Sound (f : ℕ) (t : Term) : Type 0 where
    pub is_made : Made f (made f θ t) (filled θ t)
    pub size : NoLarger ar (made f θ t) (sub θ t)

  pub record Sounds (f : ℕ) (ts : Terms) : Type 0 where
    pub are_made : Mades f ts
    pub sizes : NoLargers ar (mades f θ ts) (subs θ ts)

  -- ── the arguments ──
  pub all_are : (ts : Terms) (f : ℕ) → is_product f ≡ false → f ≢ exp_tag → Mades f ts → mades f θ ts ≡ filleds θ ts
  all_are nil f p n m = refl
  all_are (t & ts) f p n m =
      let q = beside_same f n in
      ap₂ ◌&◌ (m.0.is p n) (all_are ts (beside f) (ap is_product q ∙ p) (λ z. n (sym q ∙ z)) m.1)

  all_factors : (ts : Terms) (f : ℕ) → is_product f ≡ true → Mades f ts → sums (mades f θ ts) ≡ sums (filleds θ ts)
  all_factors nil f p m = refl
  all_factors (t & ts) f p m =
      let q = beside_same f (product_not_exp f p) in
      ap₂ add (m.0.factors p) (all_factors ts (beside f) (ap is_product q ∙ p) m.1)

  -- ── the canonical form of what is filled in ──
  -- the values are their own canonical form
  abbrev Own : Term → Type 0
  Own t = (v : ℕ) → Occurs variable v t → canon (θ v) ≡ θ v

  abbrev Owns : Terms → Type 0
  Owns ts = (v : ℕ) → Occurss variable v ts → canon (θ v) ≡ θ v

  abbrev Fixed : Term → Type 0
  Fixed c = Formed ar c × (canon c ≡ c)

  fixed : (t : Term) → Formed ar (sub θ t) → Own t → Fixed (filled θ t)
  fixed t w h =
      let v = canon_is_formed ar g (sub θ t) w in
      subst Fixed (sym (filled_canon θ t h)) (v, canonical_stays ar g (canon (sub θ t)) v (canon_is_canonical ar g (sub θ t) w))

  fixed_formed : (ts : Terms) → Formeds ar (subs θ ts) → Owns ts → Formeds ar (filleds θ ts)
  fixed_formed ts w h = subst (Formeds ar) (sym (filleds_canon θ ts h)) (canons_formed σ (subs θ ts) w)

  sums_built : (ts : Terms) → Formeds ar (subs θ ts) → Owns ts → parts (build (sums (filleds θ ts))) ≡ sums (filleds θ ts)
  sums_built ts w h =
      parts_build σ (sums (filleds θ ts)) (formed_sums σ (filleds θ ts) (fixed_formed ts w h)) (sums_atoms (filleds θ ts)) (sums_asc (filleds θ ts))

  -- ── a function of made arguments ──
  record Done (f : ℕ) (ts : Terms) : Type 0 where
    is : worked f (mades f θ ts) ≡ filled θ (app f ts)
    factors : is_product f ≡ true → parts (app f (mades f θ ts)) ≡ parts (filled θ (app f ts))
    base : f ≡ exp_tag → SamePowers ar g (app f (mades f θ ts)) (filled θ (app f ts))

  -- a product: `l` are the factors of the canonical arguments, with the sign of the function
  product :
      (f : ℕ) (ts : Terms) (l m : Exps) → is_product f ≡ true → Formed ar (app f (mades f θ ts)) → parts (app f (mades f θ ts)) ≡ l
      → apply rules f (filleds θ ts) ≡ build m → l ≡ m → parts (build m) ≡ m → Done f ts
  product f ts l m p v a b e d =
      let us : Terms = mades f θ ts in
      record {
        is = worked_product f us p ∙ same_term σ (app f us) v ∙ ap build (a ∙ e) ∙ sym b;
        factors = λ _. a ∙ e ∙ sym d ∙ ap parts (sym b);
        base = λ q. absurd (product_not_exp f p q);
      }

  -- a power
  power :
      (x y : Term) → Formed ar (made mul_tag θ y) → Made exp_tag (made exp_tag θ x) (filled θ x) → Made mul_tag (made mul_tag θ y) (filled θ y)
      → Fixed (filled θ x) → Fixed (filled θ y) → Done exp_tag (x & y & nil)
  unfolding apply towered
  power x y w u v a b =
      let s : Term = made exp_tag θ x in
      let t : Term = made mul_tag θ y in
      record {
        is = worked_exp (s & t & nil) ∙ ap₂ powered (bottom_exp s t) (exponents_exp s t nil)
            ∙ u.base refl t nil (filled θ y) (w, tt) b.0 b.1 (sym (v.factors refl));
        factors = λ p. clash (cc);
        base = λ _. powers_exp ar g s t (filled θ x) (filled θ y) (u.base refl) w (v.factors refl) a.0 b.0 a.1 b.1;
      }

  function :
      (f : ℕ) (ts : Terms) (r : Role) → RoleOf f r → Mades f ts → Formed ar (app f (mades f θ ts)) → Formeds ar (subs θ ts) → Owns ts → Done f ts
  unfolding apply
  function f ts r is_one s w v h = product 3 ts _ (sums (filleds θ ts)) refl w refl refl (all_factors ts 3 refl s) (sums_built ts v h)
  function f ts r is_mul s w v h = product 12 ts _ (sums (filleds θ ts)) refl w refl refl (all_factors ts 12 refl s) (sums_built ts v h)
  function f ts r is_inv s w v h =
      let l : Exps = sums (filleds θ ts) in
      product 11 ts _ (neg l) refl w refl refl (ap neg (all_factors ts 11 refl s))
      (parts_build σ (neg l) (entries_neg (Formed ar) l (formed_sums σ (filleds θ ts) (fixed_formed ts v h)))
      (entries_neg Atom l (sums_atoms (filleds θ ts))) (asc_neg l (sums_asc (filleds θ ts))))
  function f nil r is_exp s w v h = absurd (omega (arith, arity_count σ exp_tag nil 2 g.exp_arity w))
  function f (x & nil) r is_exp s w v h = absurd (omega (arith, arity_count σ exp_tag (mades exp_tag θ (x & nil)) 2 g.exp_arity w))
  function f (x & (y & nil)) r is_exp s w v h =
      power x y w.1.1.0 s.0 s.1.0 (fixed x v.0 (λ i o. h i (inl o))) (fixed y v.1.0 (λ i o. h i (inr (inl o))))
  function f (x & (y & (z & ts))) r is_exp s w v h =
      absurd (omega (arith, arity_count σ exp_tag (mades exp_tag θ (x & (y & (z & ts)))) 2 g.exp_arity w))
  function f ts r (is_plain p) s w v h =
      let e : is_product f ≡ false = ordinary_product f p in
      record {
        is = worked_other f (mades f θ ts) e p.no_exp ∙ ap (apply rules f) (all_are ts f e p.no_exp s);
        factors = λ q. let z : true ≡ false = sym q ∙ e in clash (cc);
        base = λ q. absurd (p.no_exp q);
      }

  -- ── a term ──
  module _ (t : Term) (w : Formed ar (sub θ t)) (h : Own t) where
    -- the canonical form may always be made
    whole : (f : ℕ) → made f θ t ≡ filled θ t → Sound f t
    whole f e =
        let q : canon (sub θ t) ≡ filled θ t = sym (filled_canon θ t h) in
        record {
          is_made = subst (λ (u : Term). Made f u (filled θ t)) (sym e) (record {
            is = λ p n. refl;
            factors = λ p. refl;
            base = λ p. powers_own ar g (filled θ t) (subst (Formed ar) q (canon_is_formed ar g (sub θ t) w))
                (subst (CanonicalBy (Irreducible rules)) q (canon_canonical σ (sub θ t) w));
          });
          size = subst (λ (u : Term). NoLarger ar u (sub θ t)) (q ∙ sym e) (record {
            formed = λ w. canon_is_formed ar g (sub θ t) w;
            range = λ r. canon_is_in_range ar g (sub θ t) r;
            symbols_less = fewer_symbols ar g (sub θ t) w;
            bytes_less = fewer_bytes ar g (sub θ t) w;
          });
        }

  close_sound :
      (e f : ℕ) (ts : Terms) → Formed ar (sub θ (app f ts)) → Own (app f ts) → Done f ts → NoLargers ar (mades f θ ts) (subs θ ts)
      → Sound e (app f ts)
  close_sound e f ts w h d s = go (stays e f) refl
    where
      us : Terms
      us = mades f θ ts

      go : (b : Bool) → stays e f ≡ b → Sound e (app f ts)
      go false q = whole (app f ts) w h e (closed_worked f us e q ∙ d.is)
      go true q =
          let k : closed e f us ≡ app f us = closed_stays f us e q in
          record {
            is_made = subst (λ (u : Term). Made e u (filled θ (app f ts))) (sym k) (⊎_elim
                (λ p. record {
                  is = λ n _. let z : true ≡ false = sym p.0 ∙ n in clash (cc);
                  factors = λ _. d.factors p.1;
                  base = λ n. absurd (product_not_exp e p.0 n);
                })
                (λ p. record {
                  is = λ _ n. absurd (n p.0);
                  factors = λ n. absurd (product_not_exp e n p.0);
                  base = λ _. d.base p.1;
                }) (stays_so e f q));
            size = subst (λ (u : Term). NoLarger ar u (sub θ (app f ts))) (sym k) (app_size ar f us (subs θ ts) s);
          }

  mutual
    pub sound : (t : Term) (f : ℕ) → Formed ar (sub θ t) → Own t → Sound f t
    sound (leaf variable n) f w h = whole (leaf variable n) w h f refl
    sound (leaf public n) f w h = whole (leaf public n) w h f refl
    sound (leaf fresh n) f w h = whole (leaf fresh n) w h f refl
    sound (app f ts) e w h =
        let s = sounds ts f w.1 h in
        close_sound e f ts w h
        (function f ts (role f) (role_of f) s.are_made ((app_size ar f (mades f θ ts) (subs θ ts) s.sizes).formed w) w.1 h) s.sizes

    pub sounds : (ts : Terms) (f : ℕ) → Formeds ar (subs θ ts) → Owns ts → Sounds f ts
    sounds nil f w h = record { are_made = tt; sizes = none_size ar }
    sounds (t & ts) f w h =
        let a = sound t f w.0 (λ v o. h v (inl o)) in
        let b = sounds ts (beside f) w.1 (λ v o. h v (inr o)) in
        record {
          are_made = (a.is_made, b.are_made);
          sizes = more_size ar (made f θ t) (sub θ t) (mades (beside f) θ ts) (subs θ ts) a.size b.sizes;
        }
