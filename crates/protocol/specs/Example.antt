-- Document 01's printed protocol file, and three that are faults, by computation.
use Rattle.std.specs.Prelude.{ℕ, List, [], ◌∷◌, ◌≡◌, refl}
use Rattle.number.specs.Groups.{number_limit}
use Rattle.number.specs.Reading.{got, fault, read_in, read_number, below, many, counted}
use Rattle.term.specs.Term.{leaf, variable}
use Rattle.term.specs.Arity.{arity, tag_arities}
use Rattle.term.specs.Reader.{symbol_at, term, term_in}
use Rattle.protocol.specs.Protocol.{Rule, fact_of, rule_of_lem, own_of, protocol_of, rule_term, fact, facts, layout, rule, own, protocol}

abbrev pub printed : List ℕ
printed = 0 ∷ 1 ∷ 1 ∷ 0 ∷ 1 ∷ 1 ∷ 1 ∷ 1 ∷ 0 ∷ 0 ∷ 0 ∷ 1 ∷ 4 ∷ 0 ∷ 0 ∷ 1 ∷ 2 ∷ 0 ∷ 0 ∷ []

-- one variable of sort fresh; premise Fr(x), action of the own symbol 4, conclusion Out(x)
abbrev pub its_rule : Rule
its_rule =
    rule_of_lem (1 ∷ [])
    ((fact_of 0 (leaf variable 0 ∷ []) ∷ []) ∷ (fact_of 4 (leaf variable 0 ∷ []) ∷ []) ∷ (fact_of 2 (leaf variable 0 ∷ []) ∷ []) ∷ [])

pub reads : protocol printed ≡ got (protocol_of [] (own_of 1 0 ∷ []) (its_rule ∷ [])) 19
unfolding protocol rule layout facts fact own rule_term term term_in symbol_at arity tag_arities many counted below read_number read_in number_limit
reads = refl

-- no function, no symbol, no rule
none : protocol (0 ∷ 0 ∷ 0 ∷ []) ≡ got (protocol_of [] [] []) 3
unfolding protocol many counted below read_number read_in
none = refl

leftover : protocol (0 ∷ 0 ∷ 0 ∷ 0 ∷ []) ≡ fault
unfolding protocol many counted below read_number read_in
leftover = refl

short : protocol (0 ∷ 0 ∷ []) ≡ fault
unfolding protocol many counted below read_number read_in
short = refl

empty : protocol [] ≡ fault
unfolding protocol many counted below read_number read_in
empty = refl

-- a rule without variables that names one
undeclared : protocol (0 ∷ 0 ∷ 1 ∷ 0 ∷ 1 ∷ 0 ∷ 0 ∷ 0 ∷ 0 ∷ 0 ∷ []) ≡ fault
unfolding protocol rule layout facts fact own rule_term term term_in symbol_at arity tag_arities many counted below read_number read_in number_limit
undeclared = refl
