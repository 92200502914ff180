-- What `multiply` and `exponent` are asked.
use Rattle.std.specs.Prelude.{ℕ, ◌+◌, ◌≤◌, List, length}
use Rattle.octets.specs.Limits.{longest}
use Rattle.term.specs.Sizes.{most_symbols, term_room}
use Rattle.octets.specs.Head.{Stands}
use Rattle.term.specs.Term.{Term, encode, symbols, Formed, InRange}
use Rattle.term.specs.Arity.{arity}
use Rattle.message.specs.Functions.{exp}
use Rattle.message.specs.Rules.{FitArities}

-- the term t stands in out from o up to e, and behind it there is room for a product; the built-in functions have their arities
pub record Whole (arities out : List ℕ) (o e : ℕ) (t : Term) : Type 0 where
  pub group : FitArities (arity arities)
  pub formed : Formed (arity arities) t
  pub range : InRange t
  pub stands : Stands out o (encode t) e
  pub few : symbols t ≤ most_symbols
  pub small : length (encode t) ≤ term_room
  pub room : e + term_room ≤ length out
  pub short : length out ≤ longest

-- the same of exp(x, y)
abbrev pub WholePower : List ℕ → List ℕ → ℕ → ℕ → Term → Term → Type 0
WholePower arities out o e x y = Whole arities out o e (exp x y)
