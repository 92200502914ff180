-- Towers of exps: of exp(exp(b, x), y), where b is no exp, the base is b and the exponents are x and y.
use Rattle.std.specs.Prelude.{Bool, true, false, cond, eqb, Option, Some, None}
use Rattle.term.specs.Tags.{exp_tag}
use Rattle.term.specs.declared.Symbol.{Symbol}
use Rattle.term.specs.declared.Symbol.TheVariants as sy
use Rattle.term.specs.Term.{Term, leaf, app, Terms, nil, ◌&◌}
use Rattle.message.specs.Gather.{powered}
use Rattle.factors.specs.declared.Way.{Way}
use Rattle.factors.specs.declared.Way.TheVariants as way
use Rattle.factors.specs.Laid.{also}
-- what they are at an exp and at any other term, and how large
pub mod Laws

abbrev pub is_exp : Option Symbol → Bool
is_exp (Some (sy.Leaf t n e)) = false
is_exp (Some (sy.Op f k e)) = eqb f exp_tag
is_exp None = false

-- "A factor is no mul, inv or one."
abbrev pub is_factor : Way → Bool
is_factor (way.On c e) = false
is_factor (way.Turn c e) = false
is_factor (way.Leaf e) = true
is_factor way.Factor = true

-- "the base of an exp is no exp": the base of the innermost exp, or the term itself where it is none
unfoldable mutual
  pub bottom : Term → Term
  bottom (leaf k n) = leaf k n
  bottom (app f ts) = cond (eqb f exp_tag) (bottoms ts (app f ts)) (app f ts)

  pub bottoms : Terms → Term → Term
  bottoms nil t = t
  bottoms (x & ts) t = bottom x

-- the exponents from inside out, in front of others
unfoldable mutual
  pub exponents : Term → Terms → Terms
  exponents (leaf k n) us = us
  exponents (app f ts) us = cond (eqb f exp_tag) (spread ts us) us

  pub spread : Terms → Terms → Terms
  spread nil us = us
  spread (x & ts) us = exponents x (also ts us)

-- the power that a tower is: of its base, to the product of its exponents
unfoldable pub towered : Term → Term
towered t = powered (bottom t) (exponents t nil)
