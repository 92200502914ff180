-- The canonical form as the program makes it. A product is multiplied out once: inside it the functions one, inv and mul stay as they stand,
-- and only the outermost product is worked out. A tower of exps likewise gathers its exponent once: an exp that is the base of an exp stays as it
-- stands. So what is made of a term depends on the function around it.
use Rattle.std.specs.Prelude.{ℕ, Bool, cond, ◌&&◌, ◌||◌, eqb}
use Rattle.term.specs.Tags.{variable_tag, mul_tag, one_tag, inv_tag, exp_tag}
use Rattle.term.specs.Term.{variable, public, fresh, Term, leaf, app, Terms, nil, ◌&◌}
use Rattle.message.specs.Table.{rules}
use Rattle.message.specs.Canon.{apply}
use Rattle.message.specs.Gather.{multiplied}
use Rattle.product.specs.Tower.{towered}
-- what is made of the base of an exp: it gives the powers that the canonical form does
pub mod Powers
-- it is the canonical form of the filled-in term, and no larger than that term
pub mod Laws

-- one, inv and mul
abbrev pub is_product : ℕ → Bool
is_product f = eqb f one_tag || (eqb f inv_tag || eqb f mul_tag)

-- whether the function f stays as it stands right inside the function g
abbrev pub stays : ℕ → ℕ → Bool
stays g f = (is_product g && is_product f) || (eqb g exp_tag && eqb f exp_tag)

-- what counts as around the arguments behind the first: an exponent is made as a factor
abbrev pub beside : ℕ → ℕ
beside g = cond (eqb g exp_tag) mul_tag g

-- no function is around
abbrev pub outside : ℕ
outside = variable_tag

-- the function f of made arguments, worked out
unfoldable pub worked : ℕ → Terms → Term
worked f us = cond (is_product f) (multiplied (app f us & nil)) (cond (eqb f exp_tag) (towered (app f us)) (apply rules f us))

-- inside the function g
unfoldable pub closed : ℕ → ℕ → Terms → Term
closed g f us = cond (stays g f) (app f us) (worked f us)

-- a term filled in with canonical values
abbrev mutual
  pub made : ℕ → (ℕ → Term) → Term → Term
  made g θ (leaf variable n) = θ n
  made g θ (leaf public n) = leaf public n
  made g θ (leaf fresh n) = leaf fresh n
  made g θ (app f ts) = closed g f (mades f θ ts)

  pub mades : ℕ → (ℕ → Term) → Terms → Terms
  mades g θ nil = nil
  mades g θ (t & ts) = made g θ t & mades (beside g) θ ts
