-- What the canonical form makes of a function and its canonical arguments, function by function: the laws that a program follows.
use Rattle.std.specs.Prelude.{ℕ, ◌≤◌, ◌≡◌, refl, ◌≢◌, length}
use Rattle.std.proofs.Math.Path.{sym, ap}
use Rattle.std.proofs.Common.{◌∙◌}
use Rattle.std.proofs.Common.{Option, Some}
use Rattle.term.specs.Tags.{one_tag, exp_tag, inv_tag, mul_tag}
use Rattle.term.specs.Term.{Term, app, Terms, nil, ◌&◌, Formed, encode}
use Rattle.message.specs.Substitution.{sub, subs}
use Rattle.message.specs.Rules.{Rule, Ordinary, FitArities}
use Rattle.message.specs.Table.{rules}
use Rattle.message.proofs.Table.Laws.{rows_fit, theory, Ruleless, no_rule}
use Rattle.message.specs.Parts.{Role}
use Rattle.message.specs.Canon.{as_binary, reduce_at, apply_at, apply}
use Rattle.message.specs.Canon.Views.{ordinary_role, reduce_hit, Plainly, stays, reduces, plainly}
use Rattle.message.proofs.Canon.Size.{mk_bytes}
use Rattle.message.specs.Gather.{multiplied, raised}
use Rattle.message.proofs.Gather.Same.{same_term, same_exp}

module _ (ar : ℕ → Option ℕ) (g : FitArities ar) where
  -- ── a function with a rule ──
  module _ (f : ℕ) (r : Rule) (e : rules f ≡ Some r) where
    made_plain : (ts : Terms) → apply rules f ts ≡ reduce_at (Some r) f ts
    unfolding apply
    made_plain ts =
        ap (λ (k : Role). apply_at rules k f ts) (ordinary_role f (rows_fit ar g f r e).head)
        ∙ ap (λ (z : Option Rule). reduce_at z f ts) e

    pub made_rule : (θ : ℕ → Term) → apply rules f (subs θ r.args) ≡ sub θ r.result
    made_rule θ = made_plain (subs θ r.args) ∙ reduce_hit r f θ (rows_fit ar g f r e).bound

    pub made_stays : (ts : Terms) → ((θ : ℕ → Term) → ts ≢ subs θ r.args) → apply rules f ts ≡ app f ts
    made_stays ts h = made_plain ts ∙ ap (λ (z : Option Rule). reduce_at z f ts) (sym e) ∙ go (reduce_at (rules f) f ts) (plainly rules f ts)
      where
        go : (t : Term) → Plainly rules f ts t → t ≡ app f ts
        go t (stays n) = refl
        go t (reduces q d θ m) =
            let s : Some r ≡ Some q = sym e ∙ d in
            let p : r ≡ q = cc in
            absurd (h θ (m ∙ ap (λ (z : Rule). subs θ z.args) (sym p)))

  -- ── a function without a rule, of any arity ──
  pub made_free : (f : ℕ) (ts : Terms) → Ordinary f → Ruleless f → apply rules f ts ≡ app f ts
  unfolding apply
  made_free f ts o n =
      ap (λ (k : Role). apply_at rules k f ts) (ordinary_role f o) ∙ ap (λ (z : Option Rule). reduce_at z f ts) (no_rule f n)

  -- ── products and exp, as gathered ──
  pub made_one : (ts : Terms) → Formed ar (app one_tag ts) → apply rules one_tag ts ≡ multiplied (app one_tag ts & nil)
  unfolding apply
  made_one ts w = sym (same_term (theory ar g) (app one_tag ts) w)

  pub made_inv : (ts : Terms) → Formed ar (app inv_tag ts) → apply rules inv_tag ts ≡ multiplied (app inv_tag ts & nil)
  unfolding apply
  made_inv ts w = sym (same_term (theory ar g) (app inv_tag ts) w)

  pub made_mul : (ts : Terms) → Formed ar (app mul_tag ts) → apply rules mul_tag ts ≡ multiplied (app mul_tag ts & nil)
  unfolding apply
  made_mul ts w = sym (same_term (theory ar g) (app mul_tag ts) w)

  pub made_exp : (a b : Term) → Formed ar a → Formed ar b → apply rules exp_tag (a & b & nil) ≡ raised (as_binary exp_tag a) a b
  unfolding apply
  made_exp a b w v = sym (same_exp (theory ar g) a b w v)

  -- ── the size ──
  pub made_bytes : (f : ℕ) (ts : Terms) → Formed ar (app f ts) → length (encode (apply rules f ts)) ≤ length (encode (app f ts))
  made_bytes f ts w = mk_bytes (theory ar g) f ts w
