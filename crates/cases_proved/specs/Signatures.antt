-- Document 02, Change 4: "adec(aenc(m,pk(k)),k)=m and verify(sign(m,k),m,pk(k))=true", whatever free functions are declared, for fresh names of any
-- numbers. The claims are made over the twelve equations and the words of the canonical form.
use Rattle.std.specs.Prelude.{ℕ, ◌≤◌, ◌≡◌, ◌≢◌, List, pos, negsuc}
use Rattle.std.proofs.Math.Path.{refl}
use Rattle.std.specs.Prelude.{Option}
use Rattle.std.proofs.Common.{arith}
use Rattle.lists.specs.Choice.{clash}
use Rattle.number.specs.Groups.{groups, groups_in}
use Rattle.term.specs.Term.{fresh, Term, app, Terms, nil, ◌&◌, Formed}
use Rattle.term.specs.Arity.{arity, tag_arities}
use Rattle.term.specs.Arity.Laws.{signing_arity}
use Rattle.message.specs.Functions.{inv, mul, aenc, adec, pk, sign, verify, yes}
use Rattle.message.specs.Equations.{equation, reflexive, transitive, congruent, same_none, same_more, adec_aenc, verify_sign}
use Rattle.message.specs.Equations.Laws.{widen}
use Rattle.message.specs.Product.{empty, part}
use Rattle.message.specs.Canonical.{Settled, Canonical, Canonicals, Factor, product, no_factor, factor, name, node, no_arg, arg}
use Rattle.message.proofs.Canonical.Laws.{factor_canonical, free_settled}
use Rattle.message.proofs.Table.Laws.{tabled_twelve}
use Rattle.message.specs.Canon.Views.{tag}
use Rattle.message.proofs.Canon.Group.{◌⊗◌, ⊗-comm}
use Rattle.cases_proved.specs.Messages.{fn, leaf_canonical, σ, Form}

-- ── where neither equation applies ──
adec_settled : (c k : Term) → ((m : Term) → c ≢ aenc m (pk k)) → Settled (adec c k)
adec_settled c k h = record {
  no_dec = λ m k e. absurd (omega (arith, tag e));
  no_fst = λ x y e. absurd (omega (arith, tag e));
  no_snd = λ x y e. absurd (omega (arith, tag e));
  no_adec = λ m l e. h m (cc);
  no_verify = λ m k e. absurd (omega (arith, tag e));
  no_exp = λ x y z e. absurd (omega (arith, tag e));
  no_exp_one = λ x e. absurd (omega (arith, tag e));
}

verify_settled : (s m k : Term) → ((l : Term) → s ≡ sign m l → k ≢ pk l) → Settled (verify s m k)
verify_settled s m k h = record {
  no_dec = λ m k e. absurd (omega (arith, tag e));
  no_fst = λ x y e. absurd (omega (arith, tag e));
  no_snd = λ x y e. absurd (omega (arith, tag e));
  no_adec = λ m k e. absurd (omega (arith, tag e));
  no_verify = λ n l e. h l (cc) (cc);
  no_exp = λ x y z e. absurd (omega (arith, tag e));
  no_exp_one = λ x e. absurd (omega (arith, tag e));
}

-- a function of a further tag
at_canonical : (f : ℕ) (ts : Terms) → 12 ≤ f → f ≢ 12 → Canonicals Settled ts → Settled (app f ts) → Canonical (app f ts)
at_canonical f ts h n c s = factor_canonical Settled (node (omega arith) (omega arith) n c s)

made_canonical : (f : ℕ) (ts : Terms) → 29 ≤ f → f ≢ 30 → f ≢ 33 → Canonicals Settled ts → Canonical (app f ts)
made_canonical f ts h a v c =
    at_canonical f ts (omega arith) (omega arith) c
    (free_settled f ts (omega arith) (omega arith) (omega arith) a v (omega arith))

-- ── the cases ──
module _ (free : List ℕ) (ai bi mi : ℕ) where
  abbrev a : Term
  a = fn ai

  abbrev b : Term
  b = fn bi

  abbrev m : Term
  m = fn mi

  abbrev ar : ℕ → Option ℕ
  ar = arity (tag_arities free)

  -- ── well formed, whatever the parts ──
  aenc_formed : (x k : Term) → Formed ar x → Formed ar k → Formed ar (aenc x (pk k))
  aenc_formed x k w v = (signing_arity free 0 (omega arith), (w, ((signing_arity free 2 (omega arith), (v, tt)), tt)))

  adec_formed : (c k : Term) → Formed ar c → Formed ar k → Formed ar (adec c k)
  adec_formed c k w v = (signing_arity free 1 (omega arith), (w, (v, tt)))

  sign_formed : (x k : Term) → Formed ar x → Formed ar k → Formed ar (sign x k)
  sign_formed x k w v = (signing_arity free 3 (omega arith), (w, (v, tt)))

  verify_formed : (x y k : Term) → Formed ar x → Formed ar y → Formed ar k → Formed ar (verify x y k)
  verify_formed x y k w v u = (signing_arity free 4 (omega arith), (w, (v, (u, tt))))

  yes_formed : Formed ar yes
  yes_formed = (signing_arity free 5 (omega arith), tt)

  pk_formed : Formed ar (pk a)
  pk_formed = (signing_arity free 2 (omega arith), (tt, tt))

  -- ── canonical ──
  pk_canonical : Canonical (pk a)
  pk_canonical = made_canonical 31 (a & nil) (omega arith) (omega arith) (omega arith) (arg (leaf_canonical fresh ai) no_arg)

  yes_factor : Factor Settled yes
  yes_factor =
      node {f = 34} (omega arith) (omega arith) (omega arith) no_arg
      (free_settled 34 nil (omega arith) (omega arith) (omega arith) (omega arith) (omega arith) (omega arith))

  yes_canonical : Canonical yes
  yes_canonical = factor_canonical Settled yes_factor

  verify_stays :
      (x k : Term) → Formed ar x → Formed ar k → Canonical x → Canonical k → ((l : Term) → sign m a ≡ sign x l → k ≢ pk l)
      → Form free (verify (sign m a) x k) (verify (sign m a) x k)
  verify_stays x k w v c d h = record {
    same = reflexive (verify_formed (sign m a) x k (sign_formed m a tt tt) w v);
    canonical = at_canonical 33 (sign m a & x & k & nil) (omega arith) (omega arith) (arg sign_canonical (arg c (arg d no_arg)))
        (verify_settled (sign m a) x k h);
  }
    where
      sign_canonical : Canonical (sign m a)
      sign_canonical =
          made_canonical 32 (m & a & nil) (omega arith) (omega arith) (omega arith)
          (arg (leaf_canonical fresh mi) (arg (leaf_canonical fresh ai) no_arg))

  -- ── adec ──
  pub opened : Form free (adec (aenc m (pk a)) a) m
  opened = record {
    same = equation (adec_formed (aenc m (pk a)) a (aenc_formed m a tt tt) tt) tt (adec_aenc m a);
    canonical = leaf_canonical fresh mi;
  }

  -- the key is equal by the equations alone
  pub opened_equal : Form free (adec (aenc m (pk (mul a b))) (mul b a)) m
  opened_equal =
      let AB = ◌⊗◌ (σ free) (a, tt) (b, tt) in
      let BA = ◌⊗◌ (σ free) (b, tt) (a, tt) in
      let c = aenc m (pk (mul a b)) in
      let w = aenc_formed m (mul a b) tt AB.1 in
      record {
        same = transitive
            (congruent (adec_formed c (mul b a) w BA.1)
            (same_more (reflexive w) (same_more (widen tabled_twelve (⊗-comm (σ free) (b, tt) (a, tt))) same_none)))
            (equation (adec_formed c (mul a b) w AB.1) tt (adec_aenc m (mul a b)));
        canonical = leaf_canonical fresh mi;
      }

  -- another key
  pub not_opened : ai ≢ bi → Form free (adec (aenc m (pk a)) b) (adec (aenc m (pk a)) b)
  not_opened n = record {
    same = reflexive (adec_formed (aenc m (pk a)) b (aenc_formed m a tt tt) tt);
    canonical = at_canonical 30 (aenc m (pk a) & b & nil) (omega arith) (omega arith)
        (arg aenc_canonical (arg (leaf_canonical fresh bi) no_arg)) (adec_settled (aenc m (pk a)) b (λ x e. n (cc)));
  }
    where
      aenc_canonical : Canonical (aenc m (pk a))
      aenc_canonical =
          made_canonical 29 (m & pk a & nil) (omega arith) (omega arith) (omega arith)
          (arg (leaf_canonical fresh mi) (arg pk_canonical no_arg))

  -- ── verify ──
  pub verified : Form free (verify (sign m a) m (pk a)) yes
  verified = record {
    same = equation (verify_formed (sign m a) m (pk a) (sign_formed m a tt tt) tt pk_formed) yes_formed (verify_sign m a);
    canonical = yes_canonical;
  }

  -- another message, another key, the secret key in place of the public one
  pub other_message : mi ≢ bi → Form free (verify (sign m a) b (pk a)) (verify (sign m a) b (pk a))
  other_message n = verify_stays b (pk a) tt pk_formed (leaf_canonical fresh bi) pk_canonical (λ l e. absurd (n (cc)))

  pub no_public_key : Form free (verify (sign m a) m a) (verify (sign m a) m a)
  no_public_key = verify_stays m a tt tt (leaf_canonical fresh mi) (leaf_canonical fresh ai) (λ l e q. clash (cc))

  -- ── "true" is no unit ──
  pub times_true : Form free (mul a yes) (mul a yes)
  unfolding arity tag_arities groups groups_in
  times_true = record {
    same = let w : Formed ar (mul a yes) = (refl, (tt, (yes_formed, tt))) in reflexive w;
    canonical = product (part a (pos 1) (part yes (pos 1) empty)) refl (tt, (refl, tt), (tt, tt, tt)) (factor name (factor yes_factor no_factor));
  }

  pub inverse_true : Form free (inv yes) (inv yes)
  unfolding arity tag_arities
  inverse_true = record {
    same = let w : Formed ar (inv yes) = (refl, (yes_formed, tt)) in reflexive w;
    canonical = product (part yes (negsuc 0) empty) refl (tt, tt, tt) (factor yes_factor no_factor);
  }
