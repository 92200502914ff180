-- The bytes of a fact, of the canonical forms of its arguments or of one of them, or as it stands: what the code is asked that writes them,
-- and what it promises.
use Rattle.std.specs.Prelude.{ℕ, ◌+◌, ◌≤◌, ◌<◌, ◌*◌, List, [], ◌∷◌, length, get_or, ◌≡◌}
use Rattle.protocol.specs.Figures.{most_fact_arity}
use Rattle.octets.specs.Limits.{longest}
use Rattle.term.specs.Sizes.{most_symbols, term_room}
use Rattle.octets.specs.Splice.Prefix.{Wrote}
use Rattle.number.specs.Layout.{flat}
use Rattle.lists.specs.All.{All}
use Rattle.term.specs.Term.{Term, encode, symbols, variable, Occurss}
use Rattle.term.specs.Reader.{terms}
use Rattle.message.specs.Substitution.{sub}
use Rattle.canonical.specs.Builtins.{Builtins}
use Rattle.canonical.specs.Contract.{Value}
use Rattle.protocol.specs.Protocol.{Fact, fact}
use Rattle.protocol.specs.Places.{Here}
use Rattle.prepared.specs.Sections.{prepared_length}
use Rattle.prepared.specs.Prepared.{slots_of, arities_of}
use Rattle.steps.specs.Facts.{value_at, filled_fact}
use Rattle.steps.specs.Facts.Bytes.{canon_bytes}
use Rattle.steps.specs.Values.Parts.{no_term}
use Rattle.facts.specs.declared.writing.Wanted.{Wanted}
use Rattle.facts.specs.declared.writing.Wanted.TheVariants as want
-- all arguments of a fact, and one of them
pub mod Whole
pub mod Argument
-- a node's values at their places
pub mod Places
-- what the writing asks, by the values and the fact; of a node that is right
pub mod Asked
pub mod Nodes

-- ── what is wanted of a fact ──
-- it has the argument
abbrev pub Has : Wanted → Fact → Type 0
Has want.All f = Unit {0}
Has (want.One x) f = x < length f.terms
Has want.Plain f = Unit {0}

-- the bytes of all arguments as they stand
abbrev pub plain_bytes : Fact → List ℕ
plain_bytes f = flat encode f.terms

-- the bytes that are wanted
abbrev pub wanted_bytes : Wanted → Fact → List ℕ
wanted_bytes want.All f = canon_bytes f.terms
wanted_bytes (want.One x) f = canon_bytes (get_or f.terms x no_term ∷ [])
wanted_bytes want.Plain f = plain_bytes f

-- ── what is asked and what is promised ──
-- as many terms as a fact can have, each with its room, and behind them room for a product
abbrev pub fact_room : ℕ
fact_room = (most_fact_arity + 1) * term_room

-- the fact f stands in the prepared protocol p at a place, its variables have the values vs, which stand in s, and an output of n bytes
-- has room for a fact from o on
pub record FactJob (p s starts : List ℕ) (place n o : ℕ) (vs : List Term) (f : Fact) : Type 0 where
  pub long : length p ≡ prepared_length
  pub table : Builtins (slots_of p)
  pub here : Here (fact p (slots_of p) (arities_of p)) f place
  pub values : (v : ℕ) → Occurss variable v (terms f.terms) → Value (slots_of p) s starts v (value_at vs v)
  pub small : All (λ t. symbols (sub (value_at vs) t) ≤ most_symbols) f.terms
  pub few : length (plain_bytes (filled_fact vs f)) + term_room ≤ fact_room
  pub room : o + fact_room ≤ n
  pub short : n ≤ longest
  pub values_short : length s ≤ longest

-- q was written from o on, and nothing past the room for a fact changed
pub record Put (out : List ℕ) (o : ℕ) (out' : List ℕ) (o' : ℕ) (q : List ℕ) : Type 0 where
  pub wrote : Wrote (o + fact_room) out o out' o' q
  pub few : length q ≤ fact_room

-- and the fact has the argument that is wanted
pub record WantedJob (p s starts : List ℕ) (place n o : ℕ) (q : Wanted) (vs : List Term) (f : Fact) : Type 0 where
  pub job : FactJob p s starts place n o vs f
  pub has : Has q f
