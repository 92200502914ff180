-- Document 01's cases of messages, marked M, whatever free functions are declared: g is a public name of any number, the others are fresh names of
-- any distinct numbers. The claims are made over the equations and the words of the canonical form.
use Rattle.std.specs.Prelude.{ℕ, ◌≡◌, refl, ◌≢◌, List, pos, negsuc}
use Rattle.std.proofs.Common.{◌∙◌, arith}
use Rattle.lists.specs.Choice.{clash}
use Rattle.std.specs.declared.cmp.Ordering.{Ordering}
use Rattle.std.specs.declared.cmp.Ordering.TheVariants.{Less, Equal, Greater}
use Rattle.term.specs.Term.{public, fresh, Kind, Term, leaf, app, nil, ◌&◌, Formed}
use Rattle.term.specs.Arity.{arity, tag_arities}
use Rattle.message.specs.Functions.{one, enc, dec, exp, inv, mul}
use Rattle.message.specs.Equations.{Same, equation, reflexive, transitive, congruent, same_none, same_more, figure, dec_enc}
use Rattle.message.specs.Equations.Laws.{same_formed, widen}
use Rattle.message.specs.Product.{empty, part, order}
use Rattle.message.specs.Canonical.{Settled, Canonical, product, no_factor, factor, name, node, no_arg, arg}
use Rattle.message.proofs.Canonical.Laws.{factor_canonical, free_settled}
use Rattle.message.specs.Rules.{Theory, tower, SameIn}
use Rattle.message.proofs.Table.Laws.{theory, tabled_twelve}
use Rattle.message.proofs.Parts.Ascending.{order_flip}
use Rattle.message.proofs.Parts.Laws.{order_eq, formed_exp}
use Rattle.message.specs.Canon.{canon}
use Rattle.message.specs.Canon.Views.{tag}
use Rattle.message.proofs.Canon.Group.{W, ◌⊗◌, i, rf, cg, cge, ⊗-comm, ⊗-cancel, i_i, i-⊗, i_one}
use Rattle.message.proofs.Theorems.{same_canon, canonical_stays, declared}

-- a public and a fresh name
abbrev pub pn : ℕ → Term
pn n = leaf public n

abbrev pub fn : ℕ → Term
fn n = leaf fresh n

-- ── small canonical terms ──
pub leaf_canonical : (k : Kind) (n : ℕ) → Canonical (leaf k n)
leaf_canonical k n = factor_canonical Settled name

-- under another key
dec_settled : (t u v : Term) → u ≢ v → Settled (dec (enc t u) v)
dec_settled t u v n = record {
  no_dec = λ m k e. n (cc);
  no_fst = λ x y e. absurd (omega (arith, tag e));
  no_snd = λ x y e. absurd (omega (arith, tag e));
  no_adec = λ m k e. absurd (omega (arith, tag e));
  no_verify = λ m k e. absurd (omega (arith, tag e));
  no_exp = λ x y z e. absurd (omega (arith, tag e));
  no_exp_one = λ x e. absurd (omega (arith, tag e));
}

exp_settled : (j k : Kind) (m n : ℕ) → Settled (exp (leaf j m) (leaf k n))
exp_settled j k m n = record {
  no_dec = λ m k e. absurd (omega (arith, tag e));
  no_fst = λ x y e. absurd (omega (arith, tag e));
  no_snd = λ x y e. absurd (omega (arith, tag e));
  no_adec = λ m k e. absurd (omega (arith, tag e));
  no_verify = λ m k e. absurd (omega (arith, tag e));
  no_exp = λ x y z e. clash (cc);
  no_exp_one = λ x e. clash (cc);
}

two_canonical :
    (f : ℕ) (t u : Term) → f ≢ 3 → f ≢ 11 → f ≢ 12 → Canonical t → Canonical u → Settled (app f (t & u & nil))
    → Canonical (app f (t & u & nil))
two_canonical f t u p q r c d s = factor_canonical Settled (node p q r (arg c (arg d no_arg)) s)

-- m over n, two different names
over_canonical : (m n : ℕ) (o : Ordering) → order (fn m) (fn n) ≡ o → o ≢ Equal → Canonical (mul (fn m) (inv (fn n)))
over_canonical m n Less e h =
    product (part (fn m) (pos 1) (part (fn n) (negsuc 0) empty)) refl (tt, (e, tt), (tt, tt, tt)) (factor name (factor name no_factor))
over_canonical m n Equal e h = absurd (h refl)
over_canonical m n Greater e h =
    product (part (fn n) (negsuc 0) (part (fn m) (pos 1) empty)) refl (tt, (order_flip (fn m) (fn n) e, tt), (tt, tt, tt))
    (factor name (factor name no_factor))

module _ (free : List ℕ) where
  abbrev pub σ : Theory
  σ = theory (arity (tag_arities free)) (declared free)

  -- u is the canonical form of t
  pub record Form (t u : Term) : Type 0 where
    pub same : Same (arity (tag_arities free)) t u
    pub canonical : Canonical u

  -- there is no other
  pub form_canon : (t u : Term) → Form t u → canon t ≡ u
  form_canon t u f =
      let ar = arity (tag_arities free) in
      let w = same_formed f.same in
      (same_canon ar (declared free) t u w.0 w.1).0 f.same ∙ canonical_stays ar (declared free) u w.1 f.canonical

  -- ── the cases ──
  module _ (gi ai bi mi : ℕ) where
    abbrev g : Term
    g = pn gi

    abbrev a : Term
    a = fn ai

    abbrev b : Term
    b = fn bi

    abbrev m : Term
    m = fn mi

    abbrev A : W σ
    A = (a, tt)

    abbrev B : W σ
    B = (b, tt)

    pub powers : Form (exp (exp (exp g a) b) (inv a)) (exp g b)
    powers =
        let E = formed_exp σ in
        let AB = ◌⊗◌ σ A B in
        let d : SameIn σ (exp (exp g a) b) (exp g (mul a b)) = equation (E (exp g a) b (E g a tt tt) tt) (E g (mul a b) tt AB.1) (tower g a b) in
        let e : SameIn σ (exp (exp g (mul a b)) (inv a)) (exp g (mul (mul a b) (inv a))) =
        equation (E (exp g (mul a b)) (inv a) (E g (mul a b) tt AB.1) (i σ A).1) (E g (mul (mul a b) (inv a)) tt (◌⊗◌ σ AB (i σ A)).1)
        (tower g (mul a b) (inv a)) in
        let c : SameIn σ (mul (mul a b) (inv a)) b = transitive (⊗-comm σ AB (i σ A)) (⊗-cancel σ A B) in
        record {
          same = widen tabled_twelve (transitive (cge σ d (rf σ (i σ A))) (transitive e (cge σ (reflexive tt) c)));
          canonical = two_canonical 10 g b (omega arith) (omega arith) (omega arith) (leaf_canonical public gi) (leaf_canonical fresh bi)
              (exp_settled public fresh gi bi);
        }

    pub inverse : ai ≢ bi → Form (inv (mul a (inv b))) (mul b (inv a))
    inverse n =
        let d : SameIn σ (inv (mul a (inv b))) (mul (inv a) b) = transitive (i-⊗ σ A (i σ B)) (cg σ (rf σ (i σ A)) (i_i σ B)) in
        record {
          same = widen tabled_twelve (transitive d (⊗-comm σ (i σ A) B));
          canonical = over_canonical bi ai (order b a) refl (λ e. n (let q : b ≡ a = order_eq σ b a tt tt e in cc));
        }

    pub decrypted : Form (dec (enc m (mul a b)) (mul b a)) m
    unfolding arity tag_arities
    decrypted =
        let w : Formed σ.arity (enc m (mul a b)) = (refl, (tt, ((◌⊗◌ σ A B).1, tt))) in
        let v : Formed σ.arity (dec (enc m (mul a b)) (mul b a)) = (refl, (w, ((◌⊗◌ σ B A).1, tt))) in
        let u : Formed σ.arity (dec (enc m (mul a b)) (mul a b)) = (refl, (w, ((◌⊗◌ σ A B).1, tt))) in
        record {
          same = transitive (congruent v (same_more (reflexive w) (same_more (widen tabled_twelve (⊗-comm σ B A)) same_none)))
              (equation u tt (figure (dec_enc m (mul a b))));
          canonical = leaf_canonical fresh mi;
        }

    pub locked : ai ≢ bi → Form (dec (enc m a) b) (dec (enc m a) b)
    unfolding arity tag_arities
    locked n =
        let w : Formed σ.arity (dec (enc m a) b) = (refl, ((refl, (tt, (tt, tt))), (tt, tt))) in
        record {
          same = reflexive w;
          canonical = two_canonical 5 (enc m a) b (omega arith) (omega arith) (omega arith)
              (two_canonical 4 m a (omega arith) (omega arith) (omega arith) (leaf_canonical fresh mi) (leaf_canonical fresh ai)
              (free_settled 4 (m & a & nil) (omega arith) (omega arith) (omega arith) (omega arith) (omega arith) (omega arith)))
              (leaf_canonical fresh bi) (dec_settled m a b (λ e. n (cc)));
        }

  pub inverse_one : Form (inv one) one
  inverse_one = record { same = widen tabled_twelve (i_one σ); canonical = product empty refl tt no_factor }
