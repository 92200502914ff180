-- Between messages it is the least congruence on the messages: with a name in place of every variable, a derivation between messages, whatever
-- variables stand in it, becomes one of messages alone.
use Rattle.std.specs.Prelude.{ℕ}
use Rattle.std.proofs.Common.{subst₂}
use Rattle.std.specs.Prelude.{Option}
use Rattle.term.specs.Term.{public, Term, leaf, app, Terms, Formed}
use Rattle.message.specs.Equations.{Figure2, Twelve, figure, adec_aenc, verify_sign, dec_enc, fst_pair, snd_pair}
use Rattle.message.specs.Equations.{mul_assoc, mul_comm, mul_one, mul_inv, inv_inv, exp_exp, exp_one, Same}
use Rattle.message.specs.Equations.Least.{Pairwise, None, more, IsCongruence, least}
use Rattle.message.specs.Substitution.{sub, subs, Ground}
use Rattle.message.specs.Substitution.Laws.{sub_formed, sub_ground, public_ground, ground_stays}

ten_sub : (θ : ℕ → Term) (t u : Term) → Figure2 t u → Figure2 (sub θ t) (sub θ u)
ten_sub θ t u (dec_enc m k) = dec_enc (sub θ m) (sub θ k)
ten_sub θ t u (fst_pair x y) = fst_pair (sub θ x) (sub θ y)
ten_sub θ t u (snd_pair x y) = snd_pair (sub θ x) (sub θ y)
ten_sub θ t u (mul_assoc x y z) = mul_assoc (sub θ x) (sub θ y) (sub θ z)
ten_sub θ t u (mul_comm x y) = mul_comm (sub θ x) (sub θ y)
ten_sub θ t u (mul_one x) = mul_one (sub θ x)
ten_sub θ t u (mul_inv x) = mul_inv (sub θ x)
ten_sub θ t u (inv_inv x) = inv_inv (sub θ x)
ten_sub θ t u (exp_exp x y z) = exp_exp (sub θ x) (sub θ y) (sub θ z)
ten_sub θ t u (exp_one x) = exp_one (sub θ x)

figure_sub : (θ : ℕ → Term) (t u : Term) → Twelve t u → Twelve (sub θ t) (sub θ u)
figure_sub θ t u (figure e) = figure (ten_sub θ t u e)
figure_sub θ t u (adec_aenc m k) = adec_aenc (sub θ m) (sub θ k)
figure_sub θ t u (verify_sign m k) = verify_sign (sub θ m) (sub θ k)

module _ (ar : ℕ → Option ℕ) (R : Term → Term → Type 0) (h : IsCongruence (λ t. Formed ar t × Ground t) Twelve R) where
  -- a name in place of every variable
  abbrev named : ℕ → Term
  named v = leaf public 0

  message : (t : Term) → Formed ar t → Formed ar (sub named t) × Ground (sub named t)
  message t w = (sub_formed ar named t w (λ v o. tt), sub_ground named t (λ v o. public_ground 0))

  abbrev Named : Term → Term → Type 0
  Named t u = R (sub named t) (sub named u)

  pairs : {ts us : Terms} → Pairwise Named ts us → Pairwise R (subs named ts) (subs named us)
  pairs None = None
  pairs (more r rs) = more r (pairs rs)

  is_named : IsCongruence (Formed ar) Twelve Named
  is_named = record {
    holds = λ t u w v e. h.holds (sub named t) (sub named u) (message t w) (message u v) (figure_sub named t u e);
    is_reflexive = λ t w. h.is_reflexive (sub named t) (message t w);
    is_symmetric = λ t u r. h.is_symmetric (sub named t) (sub named u) r;
    is_transitive = λ t u v r s. h.is_transitive (sub named t) (sub named u) (sub named v) r s;
    is_congruent = λ f ts us w rs. h.is_congruent f (subs named ts) (subs named us) (message (app f ts) w) (pairs rs);
  }

  pub least_message : (t u : Term) → Ground t → Ground u → Same ar t u → R t u
  least_message t u g k d = subst₂ R (ground_stays named t g) (ground_stays named u k) (least Named is_named d)
