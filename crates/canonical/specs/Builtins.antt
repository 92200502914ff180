-- A table of slots in which the built-in functions have document 01's arities, "one 0; h, fst, snd, inv 1; the others 2", and aenc to true theirs,
-- "2, 2, 1, 2, 3, 0".
use Rattle.std.specs.Prelude.{ℕ, ◌+◌, ◌≤◌, ◌<◌, List, ◌≡◌, refl, get_or}
use Rattle.std.proofs.Common.{◌∙◌, ap, sym, arith}
use Rattle.std.specs.Prelude.{Some}
use Rattle.term.specs.Tags.{one_tag, enc_tag, dec_tag, pair_tag, fst_tag, snd_tag, exp_tag, inv_tag, mul_tag, aenc_tag, adec_tag, pk_tag, sign_tag, verify_tag}
use Rattle.term.specs.Arity.{undeclared, arity, builtin, signing, tag_arities}
use Rattle.term.specs.Arity.Laws.{slot_builtin, signing_arity, no_leaf, arity_some}
use Rattle.message.specs.Rules.{FitArities}

pub record Builtins (table : List ℕ) : Type 0 where
  pub same : (f : ℕ) → f < 13 → get_or table f undeclared ≡ get_or builtin f undeclared
  pub signs : (j : ℕ) → j < 6 → arity table (29 + j) ≡ Some (get_or signing j undeclared)

-- document 01's table is one, whatever free functions are declared
pub declared : (free : List ℕ) → Builtins (tag_arities free)
declared free = record { same = λ f h. slot_builtin free f h; signs = λ j h. signing_arity free j h }

module _ (table : List ℕ) (b : Builtins table) where
  takes : (f n : ℕ) → 3 ≤ f → f < 13 → get_or builtin f undeclared ≡ n → (n ≡ undeclared → ⊥) → arity table f ≡ Some n
  takes f n l h e u = let q : get_or table f undeclared ≡ n = b.same f h ∙ e in arity_some table f l (λ z. u (sym q ∙ z)) ∙ ap Some q

  pub aenc_arity : arity table aenc_tag ≡ Some 2
  aenc_arity = b.signs 0 (omega arith)

  pub adec_arity : arity table adec_tag ≡ Some 2
  adec_arity = b.signs 1 (omega arith)

  pub pk_arity : arity table pk_tag ≡ Some 1
  pk_arity = b.signs 2 (omega arith)

  pub sign_arity : arity table sign_tag ≡ Some 2
  sign_arity = b.signs 3 (omega arith)

  pub verify_arity : arity table verify_tag ≡ Some 3
  verify_arity = b.signs 4 (omega arith)

  pub enc_arity : arity table enc_tag ≡ Some 2
  enc_arity = takes enc_tag 2 (omega arith) (omega arith) refl (λ z. omega arith)

  pub dec_arity : arity table dec_tag ≡ Some 2
  dec_arity = takes dec_tag 2 (omega arith) (omega arith) refl (λ z. omega arith)

  pub pair_arity : arity table pair_tag ≡ Some 2
  pair_arity = takes pair_tag 2 (omega arith) (omega arith) refl (λ z. omega arith)

  pub fst_arity : arity table fst_tag ≡ Some 1
  fst_arity = takes fst_tag 1 (omega arith) (omega arith) refl (λ z. omega arith)

  pub snd_arity : arity table snd_tag ≡ Some 1
  snd_arity = takes snd_tag 1 (omega arith) (omega arith) refl (λ z. omega arith)

  pub group : FitArities (arity table)
  group = record {
    no_leaf = λ f n e. no_leaf table f n e;
    one_arity = takes one_tag 0 (omega arith) (omega arith) refl (λ z. omega arith);
    exp_arity = takes exp_tag 2 (omega arith) (omega arith) refl (λ z. omega arith);
    inv_arity = takes inv_tag 1 (omega arith) (omega arith) refl (λ z. omega arith);
    mul_arity = takes mul_tag 2 (omega arith) (omega arith) refl (λ z. omega arith);
    true_arity = b.signs 5 (omega arith);
  }
