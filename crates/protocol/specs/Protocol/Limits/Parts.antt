-- The parts of a protocol within the limits, with the numbers that a file can hold.
use Rattle.std.specs.Prelude.{ℕ, List}
use Rattle.number.specs.Groups.{number_limit}
use Rattle.term.specs.Term.{Term}
use Rattle.protocol.specs.Protocol.{Fact, Rule}
use Rattle.protocol.specs.Protocol.Limits.{TermBelow, FactBelow, FactsBelow, LayoutBelow}

abbrev pub TermWithin : List ℕ → Term → Type 0
TermWithin = TermBelow number_limit

abbrev pub FactWithin : List ℕ → List ℕ → Fact → Type 0
FactWithin = FactBelow number_limit

abbrev pub FactsWithin : List ℕ → List ℕ → List Fact → Type 0
FactsWithin = FactsBelow number_limit

abbrev pub LayoutWithin : List ℕ → List ℕ → Rule → Type 0
LayoutWithin = LayoutBelow number_limit
