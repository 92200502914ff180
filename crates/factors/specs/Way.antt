-- What the walk does at a term: one, mul and inv are gone into, inv with the other sign; everything else is a factor.
use Rattle.std.specs.Prelude.{ℕ, eqb, Option, Some, None}
use Rattle.term.specs.Tags.{one_tag, inv_tag, mul_tag}
use Rattle.lists.specs.Choice.{pick}
use Rattle.term.specs.declared.Symbol.{Symbol}
use Rattle.term.specs.declared.Symbol.TheVariants as sy
use Rattle.factors.specs.declared.Way.{Way}
use Rattle.factors.specs.declared.Way.TheVariants as way
-- it gathers the factors of the term
pub mod Laws

abbrev pub way_at : ℕ → ℕ → ℕ → Way
way_at f k e = pick (eqb f one_tag) (way.On k e) (pick (eqb f mul_tag) (way.On k e) (pick (eqb f inv_tag) (way.Turn k e) way.Factor))

abbrev pub way_of : Option Symbol → Way
way_of (Some (sy.Leaf t n e)) = way.Leaf e
way_of (Some (sy.Op f k e)) = way_at f k e
way_of None = way.Factor
