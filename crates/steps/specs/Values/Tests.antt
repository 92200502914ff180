-- The tests of a node's values and of its filled-in terms, as the code makes them.
use Rattle.std.specs.Prelude.{ℕ, zero, suc, List, [], ◌∷◌, Bool, true, false, not, ◌&&◌, ltb}
use Rattle.std.specs.Prelude.{Option, Some, None}
use Rattle.octets.specs.Compare.{compare_bytes, is_equal}
use Rattle.number.specs.Groups.{number_limit}
use Rattle.term.specs.Term.{variable, public, fresh, Term, leaf, app, encode, symbols}
use Rattle.term.specs.Walk.{holds}
use Rattle.lists.specs.Lists.{all_by}
use Rattle.message.specs.Canon.{canon}
use Rattle.protocol.specs.Protocol.{Fact, Rule, Protocol}
use Rattle.rules.specs.Numbered.{rule_of}
use Rattle.steps.specs.Nodes.{Node}
use Rattle.steps.specs.Values.{most_in_value, most_filled_in, filled_symbols}

abbrev pub is_fresh : Term → Bool
is_fresh (leaf variable n) = false
is_fresh (leaf public n) = false
is_fresh (leaf fresh n) = true
is_fresh (app f ts) = false

abbrev pub is_public : Term → Bool
is_public (leaf variable n) = false
is_public (leaf public n) = true
is_public (leaf fresh n) = false
is_public (app f ts) = false

abbrev pub of_sort : ℕ → Term → Bool
of_sort zero v = true
of_sort (suc zero) v = is_fresh v
of_sort (suc (suc zero)) v = is_public v
of_sort (suc (suc (suc k))) v = false

abbrev pub is_canonical : Term → Bool
is_canonical v = is_equal (compare_bytes (encode (canon v)) (encode v))

-- no variable, the right sort, few symbols, canonical
abbrev pub value_ok : ℕ → Term → Bool
value_ok sort v = not (holds v 0 0 number_limit) && (of_sort sort v && (ltb (symbols v) (suc most_in_value) && is_canonical v))

-- one by one
abbrev pub values_ok : List ℕ → List Term → Bool
values_ok [] vs = true
values_ok (s ∷ ss) [] = true
values_ok (s ∷ ss) (v ∷ vs) = value_ok s v && values_ok ss vs

abbrev pub term_ok : List Term → Term → Bool
term_ok vs t = ltb (filled_symbols vs t) (suc most_filled_in)

abbrev pub fact_ok : List Term → Fact → Bool
fact_ok vs f = all_by (term_ok vs) f.terms

abbrev pub rule_ok : List Term → Rule → Bool
rule_ok vs u = all_by (all_by (fact_ok vs)) u.lists

-- of the rule, where there is one
abbrev pub of_rule : (Rule → Bool) → Option Rule → Bool
of_rule q None = true
of_rule q (Some u) = q u

module _ (p : Protocol) where
  abbrev pub node_values_ok : Node → Bool
  node_values_ok x = of_rule (λ u. values_ok u.sorts x.values) (rule_of p x.rule)

  abbrev pub node_terms_ok : Node → Bool
  node_terms_ok x = of_rule (rule_ok x.values) (rule_of p x.rule)
