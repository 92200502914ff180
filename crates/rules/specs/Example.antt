-- Document 01's printed protocol is fit; P1, P3, P4 and P5 broken; the built-in rules meet P5; some rules by their number. By computation.
use Rattle.std.specs.Prelude.{ℕ, [], ◌∷◌, ◌≡◌, refl}
use Rattle.std.specs.Prelude.{Some, None}
use Rattle.number.specs.Groups.{number_limit}
use Rattle.number.specs.Reading.{read_in, read_number, below, many, counted}
use Rattle.term.specs.Term.{leaf, app, variable, public, fresh, nil, ◌&◌}
use Rattle.term.specs.Arity.{arity, tag_arities}
use Rattle.term.specs.Reader.{symbol_at, term, term_in}
use Rattle.protocol.specs.Protocol.{fact_of, rule_of_lem, protocol_of, premises, actions, rule_term, fact, facts, layout, rule, own, protocol}
use Rattle.protocol.specs.Example.{printed, its_rule}
use Rattle.rules.specs.Fit.{least_unfit, judged, sound}
use Rattle.lists.specs.Below.{least, all_below}
use Rattle.rules.specs.Numbered.{rule_of, fixed, makes_fresh, hears, injects, names, learns, applies, numbered}

printed_fit : judged (protocol printed) ≡ sound
unfolding protocol rule layout facts fact own rule_term term term_in symbol_at arity tag_arities many counted below read_number read_in number_limit least all_below
printed_fit = refl

-- a fresh name in an action: P1
fresh_name : least_unfit (rule_of_lem [] ([] ∷ (fact_of 4 (leaf fresh 7 ∷ []) ∷ []) ∷ [] ∷ []) ∷ []) ≡ 1
unfolding least all_below number_limit
fresh_name = refl

-- the second rule has K among its conclusions: P3
k_made : least_unfit (its_rule ∷ rule_of_lem [] ([] ∷ [] ∷ (fact_of 3 (leaf public 0 ∷ []) ∷ []) ∷ []) ∷ []) ≡ 2
unfolding least all_below number_limit
k_made = refl

-- a variable of a conclusion, in no premise and of sort fresh: P4, though an action has it
unbound :
    least_unfit (rule_of_lem (1 ∷ []) ([] ∷ (fact_of 4 (leaf variable 0 ∷ []) ∷ []) ∷ (fact_of 2 (leaf variable 0 ∷ []) ∷ []) ∷ []) ∷ []) ≡ 1
unfolding least all_below number_limit
unbound = refl

-- a variable of an action only: P5, be it of sort message or fresh, below a function too; none is broken if it is of sort public
recorded : least_unfit (rule_of_lem (0 ∷ []) ([] ∷ (fact_of 4 (leaf variable 0 ∷ []) ∷ []) ∷ [] ∷ []) ∷ []) ≡ 1
unfolding least all_below number_limit
recorded = refl

recorded_below :
    least_unfit (its_rule ∷ rule_of_lem (1 ∷ []) ([] ∷ (fact_of 4 (app 6 (leaf variable 0 & nil) ∷ []) ∷ []) ∷ [] ∷ []) ∷ []) ≡ 2
unfolding least all_below number_limit
recorded_below = refl

public_recorded : least_unfit (rule_of_lem (2 ∷ []) ([] ∷ (fact_of 4 (leaf variable 0 ∷ []) ∷ []) ∷ [] ∷ []) ∷ []) ≡ 0
unfolding least all_below number_limit
public_recorded = refl

-- the built-in rules meet P5: rule 2 records its premise, the others nothing
builtin_recorded :
    (actions injects ≡ premises injects) × (actions makes_fresh ≡ []) × (actions hears ≡ []) × (actions names ≡ []) × (actions learns ≡ [])
    × ((t k : ℕ) → actions (applies t k) ≡ [])
builtin_recorded = (refl, refl, refl, refl, refl, λ t k. refl)

-- rule 1; h is tag 6, its rule 8; of two free functions, the second is of arity 0: its rule is 16, and 17 is none; 31 is the first own rule
second : rule_of (protocol_of (1 ∷ 0 ∷ []) [] (its_rule ∷ [])) 1 ≡ Some hears
unfolding rule_of numbered fixed
second = refl

hashes :
    rule_of (protocol_of (1 ∷ 0 ∷ []) [] (its_rule ∷ [])) 8
    ≡ Some
    (rule_of_lem (0 ∷ [])
    ((fact_of 3 (leaf variable 0 ∷ []) ∷ []) ∷ [] ∷ (fact_of 3 (app 6 (leaf variable 0 & nil) ∷ []) ∷ []) ∷ []))
unfolding rule_of numbered arity tag_arities
hashes = refl

constant :
    rule_of (protocol_of (1 ∷ 0 ∷ []) [] (its_rule ∷ [])) 16
    ≡ Some (rule_of_lem [] ([] ∷ [] ∷ (fact_of 3 (app 14 nil ∷ []) ∷ []) ∷ []))
unfolding rule_of numbered arity tag_arities
constant = refl

no_function : rule_of (protocol_of (1 ∷ 0 ∷ []) [] (its_rule ∷ [])) 17 ≡ None
unfolding rule_of numbered arity tag_arities
no_function = refl

own_rule : rule_of (protocol_of (1 ∷ 0 ∷ []) [] (its_rule ∷ [])) 31 ≡ Some its_rule
unfolding rule_of numbered
own_rule = refl

no_rule : rule_of (protocol_of (1 ∷ 0 ∷ []) [] (its_rule ∷ [])) 32 ≡ None
unfolding rule_of numbered
no_rule = refl

-- 97 is that of tag 31, pk, under every protocol; behind 100 there is none
signing_rule :
    rule_of (protocol_of [] [] []) 97
    ≡ Some
    (rule_of_lem (0 ∷ [])
    ((fact_of 3 (leaf variable 0 ∷ []) ∷ []) ∷ [] ∷ (fact_of 3 (app 31 (leaf variable 0 & nil) ∷ []) ∷ []) ∷ []))
unfolding rule_of numbered arity tag_arities
signing_rule = refl

no_further : rule_of (protocol_of [] [] (its_rule ∷ [])) 101 ≡ None
unfolding rule_of numbered
no_further = refl
