-- What the functions inside are asked.
use Rattle.std.specs.Prelude.{ℕ, ◌+◌, ◌≤◌, ◌<◌, ◌≡◌, Bool, true, false, List, length, take, get_or}
use Rattle.octets.specs.Limits.{longest}
use Rattle.term.specs.Sizes.{most_symbols, term_room}
use Rattle.term.specs.Tags.{exp_tag}
use Rattle.term.specs.Term.{Term, Terms, nil, count, encode, encodes, symbolss}
use Rattle.term.specs.Arity.{arity}
use Rattle.message.specs.Product.{Exps}
use Rattle.message.specs.Rules.{FitArities}
use Rattle.message.specs.Gather.{powered}
use Rattle.factors.specs.Mass.{mass}
use Rattle.factors.specs.Rows.{Table}
use Rattle.factors.specs.Laid.{Laid, OneAt}
use Rattle.factors.specs.declared.Entry.{Entry}
use Rattle.product.specs.Chain.{row, sides, written}
use Rattle.product.specs.Side.{side}
use Rattle.product.specs.Tower.{bottom, exponents}

-- ── writing from a table ──
-- the factors l stand in the front of out, none behind o, and they are few
pub record Ready (out : List ℕ) (T : List Entry) (o : ℕ) (l : Exps) : Type 0 where
  pub src : List ℕ
  pub front : take (length src) out ≡ src
  pub behind : length src ≤ o
  pub table : Table src T (length T) l
  pub few : mass l ≤ most_symbols

-- and one side of them fits from o on, behind so many tags
pub record Lay (out : List ℕ) (T : List Entry) (m : Bool) (o tags : ℕ) (l : Exps) : Type 0 where
  pub ready : Ready out T o l
  pub fits : o + tags + length (row (side m l)) ≤ length out

-- and both sides of them fit
pub record Both (out : List ℕ) (T : List Entry) (o : ℕ) (l : Exps) : Type 0 where
  pub ready : Ready out T o l
  pub fits : o + length (sides (side false l) (side true l)) ≤ length out

-- ── the product of the k terms from a place up to e ──
pub record Prod (arities out : List ℕ) (at k e : ℕ) (ts : Terms) : Type 0 where
  pub laid : Laid arities out at ts
  pub ends : e ≡ at + length (encodes ts)
  pub many : count ts ≡ k
  pub inside : e ≤ length out
  pub short : e < longest
  pub few : symbolss ts ≤ most_symbols
  pub fits : e + length (written ts) ≤ length out

-- ── a power in place ──
-- the tag of exp stands at o, the base t from b up to z, and from there up to e the k terms ts that are the factors of the exponent; behind
-- them there is room for their product
pub record Power (arities out : List ℕ) (o b z k e : ℕ) (t : Term) (ts : Terms) : Type 0 where
  pub tag : get_or out o 0 ≡ exp_tag
  pub before : o < b
  pub base : OneAt arities out b z t
  pub factors : Laid arities out z ts
  pub ends : e ≡ z + length (encodes ts)
  pub many : count ts ≡ k
  pub few : symbolss ts ≤ most_symbols
  pub room : e + term_room ≤ length out
  pub short : length out ≤ longest
  pub fits : o + length (encode (powered t ts)) ≤ e
  pub small : e ≤ o + term_room

-- ── the place behind a term ──
pub record Behind (arities src : List ℕ) (at e : ℕ) (t : Term) : Type 0 where
  pub group : FitArities (arity arities)
  pub one : OneAt arities src at e t
  pub short : length src ≤ longest

-- ── a tower of exps ──
-- the tower t stands from `at` up to e: the tags of its exps, from b on its base, and from `stop` on its exponents
pub record Tower (arities src : List ℕ) (at b e : ℕ) (t : Term) : Type 0 where
  pub stop : ℕ
  pub base : OneAt arities src b stop (bottom t)
  pub factors : Laid arities src stop (exponents t nil)
  pub ends : e ≡ stop + length (encodes (exponents t nil))
  pub tags : b ≡ at + count (exponents t nil)
