-- What the tests of the canonical form say: of a function's role, of a term's two arguments, of a subterm rule at a list of arguments.
use Rattle.std.specs.Prelude.{ℕ, ◌≡◌, refl, ◌≢◌, ◌⊎◌, Bool, true, false, cond, eqb}
use Rattle.std.proofs.Common.{sym, ◌∙◌, ap, subst, inl, inr, ⊎_elim, arith, eqb-true, eq-eqb}
use Rattle.std.proofs.Math.Bool.{and-eq-true_iff}
use Rattle.std.specs.Prelude.{Option, Some}
use Rattle.std.specs.Option.{unwrap_or}
use Rattle.std.proofs.lemmas.Bool.{eqb-false}
use Rattle.lists.specs.Choice.{clash}
use Rattle.term.specs.Term.{variable, public, fresh, Term, leaf, app, Terms, nil, ◌&◌, count, tag_of, Occurs, Occurss}
use Rattle.term.specs.Term.Laws.{tag_same}
use Rattle.message.specs.Functions.{one}
use Rattle.message.specs.Substitution.{sub, subs}
use Rattle.message.specs.Substitution.Laws.{sub_agree, subs_agree}
use Rattle.message.specs.Rules.{Rule, Ordinary}
use Rattle.message.specs.Parts.{Role, plain, power, inverse, product, role}
use Rattle.message.specs.Canon.{Binary, not, binary, two_of, as_binary, on_binary, eq_t, eq_ts, or_else, find, finds, found, reduce_at}

pub tag : {f g : ℕ} {ts us : Terms} → app f ts ≡ app g us → f ≡ g
tag e = cc

-- ── the role of a function ──
pub data RoleOf : ℕ → Role → Type 0 where
  is_one : RoleOf 3 product
  is_exp : RoleOf 10 power
  is_inv : RoleOf 11 inverse
  is_mul : RoleOf 12 product
  is_plain : {f : ℕ} → Ordinary f → RoleOf f plain

test : (P : Role → Type 0) (f n : ℕ) (a b : Role) → (f ≡ n → P a) → (f ≢ n → P b) → P (cond (eqb f n) a b)
test P f n a b p q = go (eqb f n) refl
  where
    go : (t : Bool) → eqb f n ≡ t → P (cond t a b)
    go true e = p (eqb-true f n e)
    go false e = q (eqb-false f n e)

pub role_of : (f : ℕ) → RoleOf f (role f)
role_of f =
    let is : (n : ℕ) (k : Role) → RoleOf n k → f ≡ n → RoleOf f k = λ n k c e. subst (λ (i : ℕ). RoleOf i k) (sym e) c in
    test (RoleOf f) f 3 _ _ (is 3 product is_one) λ n3.
    test (RoleOf f) f 10 _ _ (is 10 power is_exp) λ n10.
    test (RoleOf f) f 11 _ _ (is 11 inverse is_inv) λ n11.
    test (RoleOf f) f 12 _ _ (is 12 product is_mul) λ n12.
    is_plain (record { no_one = n3; no_exp = n10; no_inv = n11; no_mul = n12 })

pub ordinary_role : (f : ℕ) → Ordinary f → role f ≡ plain
ordinary_role f o = go f (role f) (role_of f) o
  where
    go : (f : ℕ) (k : Role) → RoleOf f k → Ordinary f → k ≡ plain
    go f k is_one o = absurd (o.no_one refl)
    go f k is_exp o = absurd (o.no_exp refl)
    go f k is_inv o = absurd (o.no_inv refl)
    go f k is_mul o = absurd (o.no_mul refl)
    go f k (is_plain p) o = refl

-- ── two arguments ──
pub data AsBinary (f : ℕ) : Term → Binary → Type 0 where
  is_binary : (x y : Term) → AsBinary f (app f (x & (y & nil))) (binary x y)
  is_not : {t : Term} → ((x y : Term) → t ≢ app f (x & (y & nil))) → AsBinary f t not

pub binary_view : (f : ℕ) (t : Term) → AsBinary f t (as_binary f t)
binary_view f (leaf s n) = is_not {t = leaf s n} (λ x y e. clash (cc))
binary_view f (app g ts) = go (eqb g f) refl
  where
    shape : (us : Terms) → AsBinary f (app f us) (two_of us)
    shape nil = is_not {t = app f nil} (λ x y e. clash (cc))
    shape (x & nil) = is_not {t = app f (x & nil)} (λ u v e. clash (cc))
    shape (x & (y & nil)) = is_binary x y
    shape (x & (y & (z & us))) = is_not {t = app f (x & (y & (z & us)))} (λ u v e. clash (cc))

    go : (t : Bool) → eqb g f ≡ t → AsBinary f (app g ts) (cond t (two_of ts) not)
    go true e = subst (λ (i : ℕ). AsBinary f (app i ts) (two_of ts)) (sym (eqb-true g f e)) (shape ts)
    go false e = is_not {t = app g ts} (λ x y q. eqb-false g f e (tag q))

pub on_binary_ind :
    (P : Term → Type 0) (g : Term → Term → Term) (f : ℕ) (ts : Terms) → count ts ≡ 2 → ((x y : Term) → ts ≡ x & (y & nil) → P (g x y))
    → P (on_binary g f ts)
on_binary_ind P g f nil c h = absurd (omega arith)
on_binary_ind P g f (x & nil) c h = absurd (omega arith)
on_binary_ind P g f (x & (y & nil)) c h = h x y refl
on_binary_ind P g f (x & (y & (z & ts))) c h = absurd (omega arith)

-- ── equality of terms, as a test ──
mutual
  eq_t_sound : (t u : Term) → eq_t t u ≡ true → t ≡ u
  eq_t_sound (leaf s n) (leaf r m) e =
      let b = (and-eq-true_iff (eqb (tag_of s) (tag_of r)) (eqb n m)).0 e in
      cc (tag_same s r (eqb-true (tag_of s) (tag_of r) b.0), eqb-true n m b.1)
  eq_t_sound (leaf s n) (app g us) e = clash (cc)
  eq_t_sound (app f ts) (leaf r m) e = clash (cc)
  eq_t_sound (app f ts) (app g us) e =
      let b = (and-eq-true_iff (eqb f g) (eq_ts ts us)).0 e in
      cc (eqb-true f g b.0, eq_ts_sound ts us b.1)

  pub eq_ts_sound : (ts us : Terms) → eq_ts ts us ≡ true → ts ≡ us
  eq_ts_sound nil nil e = refl
  eq_ts_sound nil (u & us) e = clash (cc)
  eq_ts_sound (t & ts) nil e = clash (cc)
  eq_ts_sound (t & ts) (u & us) e =
      let b = (and-eq-true_iff (eq_t t u) (eq_ts ts us)).0 e in
      cc (eq_t_sound t u b.0, eq_ts_sound ts us b.1)

mutual
  eq_t_refl : (t : Term) → eq_t t t ≡ true
  eq_t_refl (leaf s n) = rw (eq-eqb (tag_of s) (tag_of s) refl, eq-eqb n n refl)
  eq_t_refl (app f ts) = rw (eq-eqb f f refl) (eq_ts_refl ts)

  pub eq_ts_refl : (ts : Terms) → eq_ts ts ts ≡ true
  eq_ts_refl nil = refl
  eq_ts_refl (t & ts) = rw (eq_t_refl t) (eq_ts_refl ts)

-- ── matching ──
mutual
  find_ok : (v : ℕ) (θ : ℕ → Term) (p : Term) → (find v p (sub θ p) ≡ Some (θ v)) ⊎ ((find v p (sub θ p) ≡ Option.None) × (Occurs variable v p → ⊥))
  find_ok v θ (leaf variable n) = go (eqb n v) refl
    where
      go :
          (b : Bool) → eqb n v ≡ b
          → (cond b (Some (θ n)) Option.None ≡ Some (θ v)) ⊎ ((cond b (Some (θ n)) Option.None ≡ Option.None) × (leaf variable n ≡ leaf variable v → ⊥))
      go true e = inl (ap (λ (i : ℕ). Some (θ i)) (eqb-true n v e))
      go false e = inr (refl, λ o. eqb-false n v e (cc))
  find_ok v θ (leaf public n) = inr (refl, λ o. clash (cc))
  find_ok v θ (leaf fresh n) = inr (refl, λ o. clash (cc))
  find_ok v θ (app f ps) = finds_ok v θ ps

  finds_ok :
      (v : ℕ) (θ : ℕ → Term) (ps : Terms) → (finds v ps (subs θ ps) ≡ Some (θ v)) ⊎ ((finds v ps (subs θ ps) ≡ Option.None) × (Occurss variable v ps → ⊥))
  finds_ok v θ nil = inr (refl, λ x. x)
  finds_ok v θ (p & ps) = go (find v p (sub θ p)) (finds v ps (subs θ ps)) (find_ok v θ p) (finds_ok v θ ps)
    where
      go :
          (a b : Option Term) → (a ≡ Some (θ v)) ⊎ ((a ≡ Option.None) × (Occurs variable v p → ⊥))
          → (b ≡ Some (θ v)) ⊎ ((b ≡ Option.None) × (Occurss variable v ps → ⊥))
          → (or_else a b ≡ Some (θ v)) ⊎ ((or_else a b ≡ Option.None) × (Occurs variable v p ⊎ Occurss variable v ps → ⊥))
      go a b (inl x) y = inl (ap (λ (o : Option Term). or_else o b) x)
      go a b (inr x) (inl y) = inl (ap (λ (o : Option Term). or_else o b) x.0 ∙ y)
      go a b (inr x) (inr y) = inr (ap (λ (o : Option Term). or_else o b) x.0 ∙ y.0, ⊎_elim x.1 y.1)

found_ok : (v : ℕ) (θ : ℕ → Term) (ps : Terms) → Occurss variable v ps → found ps (subs θ ps) v ≡ θ v
found_ok v θ ps o = ⊎_elim (λ e. ap (λ (x : Option Term). unwrap_or x one) e) (λ d. absurd (d.1 o)) (finds_ok v θ ps)

hit_test : (θ : ℕ → Term) (ps : Terms) → eq_ts (subs (found ps (subs θ ps)) ps) (subs θ ps) ≡ true
hit_test θ ps = rw (subs_agree (found ps (subs θ ps)) θ ps (λ v o. found_ok v θ ps o)) (eq_ts_refl (subs θ ps))

-- a rule applies to its instances
pub reduce_hit :
    (r : Rule) (f : ℕ) (θ : ℕ → Term) → ((v : ℕ) → Occurs variable v r.result → Occurss variable v r.args)
    → reduce_at (Some r) f (subs θ r.args) ≡ sub θ r.result
reduce_hit r f θ b =
    let ts = subs θ r.args in
    ap (λ (x : Bool). cond x (sub (found r.args ts) r.result) (app f ts)) (hit_test θ r.args)
    ∙ sub_agree (found r.args ts) θ r.result (λ v o. found_ok v θ r.args (b v o))

-- at a function of no special role: its rule applies, or it stays
pub data Plainly (rule : ℕ → Option Rule) (f : ℕ) (ts : Terms) : Term → Type 0 where
  stays : ((r : Rule) → rule f ≡ Some r → (θ : ℕ → Term) → ts ≢ subs θ r.args) → Plainly rule f ts (app f ts)
  reduces : (r : Rule) → rule f ≡ Some r → (θ : ℕ → Term) → ts ≡ subs θ r.args → Plainly rule f ts (sub θ r.result)

pub plainly : (rule : ℕ → Option Rule) (f : ℕ) (ts : Terms) → Plainly rule f ts (reduce_at (rule f) f ts)
plainly rule f ts = go (rule f) refl
  where
    at : (r : Rule) → rule f ≡ Some r → (b : Bool) → eq_ts (subs (found r.args ts) r.args) ts ≡ b
        → Plainly rule f ts (cond b (sub (found r.args ts) r.result) (app f ts))
    at r e true q = reduces r e (found r.args ts) (sym (eq_ts_sound (subs (found r.args ts) r.args) ts q))
    at r e false q = stays (λ r' e' θ m.
        let s : Some r ≡ Some r' = sym e ∙ e' in
        let p : r ≡ r' = cc in
        let n : ts ≡ subs θ r.args = m ∙ ap (λ (z : Rule). subs θ z.args) (sym p) in
        let h : eq_ts (subs (found r.args ts) r.args) ts ≡ true = subst (λ (z : Terms). eq_ts (subs (found r.args z) r.args) z ≡ true)
        (sym n) (hit_test θ r.args) in
        clash (cc))

    go : (o : Option Rule) → rule f ≡ o → Plainly rule f ts (reduce_at o f ts)
    go Option.None e = stays (λ r e' θ m. let s : Option.None ≡ Some r = sym e ∙ e' in clash (cc))
    go (Some r) e = at r e (eq_ts (subs (found r.args ts) r.args) ts) refl
