-- A product and a power are no longer than what stood there.
use Rattle.std.specs.Prelude.{ℕ, zero, suc, ◌+◌, ◌≤◌, ◌≡◌}
use Rattle.std.proofs.Math.Path.{refl, ap}
use Rattle.std.specs.Prelude.{Option}
use native.Mathlib.Omega.{arith}
use Rattle.std.proofs.Math.ListN.{length}
use Rattle.std.proofs.Common.{length-append}
use Rattle.term.specs.Tags.{one_tag, inv_tag, mul_tag}
use Rattle.term.specs.Term.{Term, leaf, app, Terms, nil, ◌&◌, count, encode, encodes, Formed, Formeds}
use Rattle.message.specs.Product.{chain}
use Rattle.message.specs.Rules.{FitArities}
use Rattle.message.specs.Parts.{Role, role}
use Rattle.message.specs.Canon.Views.{RoleOf, is_one, is_exp, is_inv, is_mul, is_plain, role_of}
use Rattle.message.proofs.Made.{made_one, made_inv, made_mul, made_bytes}
use Rattle.message.specs.Gather.{enter, pours, multiplied, powered}
use Rattle.product.specs.Chain.{written}
use Rattle.product.specs.Chain.Laws.{encode_two, written_none, written_some}
use Rattle.product.specs.Powers.{multiplied_chain, chain_long, chain_formed}

module _ (ar : ℕ → Option ℕ) (g : FitArities ar) where
  pub product_short : (t : Term) → Formed ar t → length (encode (multiplied (t & nil))) ≤ length (encode t)
  unfolding multiplied pours enter
  product_short (leaf k n) w = omega arith
  product_short (app f ts) w = go f (role f) (role_of f) refl w
    where
      go : (f : ℕ) (k : Role) → RoleOf f k → role f ≡ k → Formed ar (app f ts) → length (encode (multiplied (app f ts & nil))) ≤ length (encode (app f ts))
      go f k is_one e w = omega (arith, made_bytes ar g one_tag ts w, ap (λ (t : Term). length (encode t)) (made_one ar g ts w))
      go f k is_exp e w = omega arith
      go f k is_inv e w = omega (arith, made_bytes ar g inv_tag ts w, ap (λ (t : Term). length (encode t)) (made_inv ar g ts w))
      go f k is_mul e w = omega (arith, made_bytes ar g mul_tag ts w, ap (λ (t : Term). length (encode t)) (made_mul ar g ts w))
      go f k (is_plain p) e w = rw e (omega arith)

  -- a mul takes the place of each exp of a tower but one
  pub power_short :
      (b : Term) (ts : Terms) → 1 ≤ count ts → Formeds ar ts → length (encode (powered b ts)) ≤ count ts + (length (encode b) + length (encodes ts))
  power_short b nil h w = absurd (omega arith)
  power_short b (t & us) h w = go (length (written (t & us))) refl
    where
      go : (n : ℕ) → length (written (t & us)) ≡ n
          → length (encode (powered b (t & us))) ≤ count (t & us) + (length (encode b) + length (encodes (t & us)))
      go zero e = omega (arith, ap (λ (u : Term). length (encode u)) ((written_none (t & us) e).power b))
      go (suc n) e =
          let S = written_some (t & us) (λ h. absurd (omega arith)) in
          omega (
            arith,
            ap (λ (u : Term). length (encode u)) (S.power b),
            ap length (encode_two 10 (omega arith) b (multiplied (t & us))),
            length-append (encode b) (encode (multiplied (t & us))),
            ap (λ (u : Term). length (encode u)) (multiplied_chain t us),
            product_short (chain t us) (chain_formed ar g t us w),
            chain_long t us,
          )
