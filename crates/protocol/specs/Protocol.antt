-- A protocol file: its abstract syntax, its bytes, its reading. The quotations are the sentences of "Files" in their order.
use Rattle.std.specs.Prelude.{ℕ, ◌+◌, List, [], ◌∷◌, ◌++◌, map, Bool, not, length, get_or, ltb, eqb}
use Rattle.term.specs.Tags.{most_functions, variable_tag}
use Rattle.protocol.specs.Figures.{most_own, flag_count, most_rules, most_variables, sort_count, arity_limit, fact_arity_limit}
use Rattle.protocol.specs.Figures.{rule_symbol_limit, premise_list, action_list, conclusion_list, list_count, most_facts}
use Rattle.lists.specs.Choice.{pick}
use Rattle.number.specs.Groups.{groups, number_limit}
use Rattle.number.specs.Reading.{Read, got, fault, and_then, below, many, counted}
use Rattle.lists.specs.Lists.{any_by}
use Rattle.number.specs.Layout.{flat, listed}
use Rattle.term.specs.Term.{Term, encode, symbols}
use Rattle.term.specs.Arity.{tag_arities}
use Rattle.term.specs.Reader.{term}
use Rattle.term.specs.Walk.{holds}
-- the limits as one predicate
pub mod Limits
-- what is within the limits reads back from its bytes, and what reads is within them and stands there
pub mod Exact
-- what code answers of a rule's terms, facts and lists
pub mod Walks
-- of a text that code has
pub mod Text

-- ── abstract syntax ──
-- "A fact is its symbol and terms"
pub record Fact : Type 0 where
  pub symbol : ℕ
  pub terms : List Term

-- "A rule: count of variables (16), each sort (0 message, 1 fresh, 2 public); then premises, actions, conclusions": three lists of facts
pub record Rule : Type 0 where
  pub sorts : List ℕ
  pub lists : List (List Fact)

-- "own fact symbols (32), each arity (0 to 8) and 0 linear or 1 persistent"
pub record Own : Type 0 where
  pub arity : ℕ
  pub flag : ℕ

-- "count of free functions (16), each arity (0 to 4); count of own fact symbols (32) ..; count of rules (64)"
pub record Protocol : Type 0 where
  pub functions : List ℕ
  pub symbols : List Own
  pub rules : List Rule

abbrev pub fact_of : ℕ → List Term → Fact
fact_of y ts = record { symbol = y; terms = ts }

abbrev pub rule_of_lem : List ℕ → List (List Fact) → Rule
rule_of_lem vs ps = record { sorts = vs; lists = ps }

abbrev pub own_of : ℕ → ℕ → Own
own_of a l = record { arity = a; flag = l }

abbrev pub protocol_of : List ℕ → List Own → List Rule → Protocol
protocol_of fs os rs = record { functions = fs; symbols = os; rules = rs }

-- the list of a number: 0 premises, 1 actions, 2 conclusions
abbrev pub list_of : ℕ → Rule → List Fact
list_of list r = get_or r.lists list []

abbrev pub premises : Rule → List Fact
premises = list_of premise_list

abbrev pub actions : Rule → List Fact
actions = list_of action_list

abbrev pub conclusions : Rule → List Fact
conclusions = list_of conclusion_list

-- where a list has no item of some number
abbrev pub no_fact : Fact
no_fact = fact_of 0 []

abbrev pub empty_rule : Rule
empty_rule = rule_of_lem [] []

-- "Symbols 0 Fr, 1 In, 2 Out are linear, 3 K persistent, each of arity 1; own ones start at 4."
abbrev pub fr_symbol : ℕ
fr_symbol = 0

abbrev pub in_symbol : ℕ
in_symbol = 1

abbrev pub out_symbol : ℕ
out_symbol = 2

abbrev pub k_symbol : ℕ
k_symbol = 3

-- the arity of every fact symbol, and whether it is persistent (1) or linear (0)
abbrev pub fact_arities : List Own → List ℕ
fact_arities os = 1 ∷ 1 ∷ 1 ∷ 1 ∷ map (λ o. o.arity) os

abbrev pub fact_flags : List Own → List ℕ
fact_flags os = 0 ∷ 0 ∷ 0 ∷ 1 ∷ map (λ o. o.flag) os

-- ── bytes ──
abbrev pub encode_fact : Fact → List ℕ
encode_fact f = groups f.symbol ++ flat encode f.terms

abbrev pub encode_rule : Rule → List ℕ
encode_rule r = listed groups r.sorts ++ flat (listed encode_fact) r.lists

abbrev pub encode_own : Own → List ℕ
encode_own o = groups o.arity ++ groups o.flag

abbrev pub encode_protocol : Protocol → List ℕ
encode_protocol p = listed groups p.functions ++ (listed encode_own p.symbols ++ listed encode_rule p.rules)

-- ── reading ──
-- a leaf of a kind, its number from lo on and below hi, stands in one of a fact's terms
abbrev pub leaf_in : ℕ → ℕ → ℕ → Fact → Bool
leaf_in kind lo hi f = any_by (λ t. holds t kind lo hi) f.terms

-- every variable of a rule is declared: none from the rule's count on
abbrev pub declared : Rule → Bool
declared r = not (any_by (any_by (leaf_in variable_tag (length r.sorts) number_limit)) r.lists)

-- "a rule's term has at most 64 symbols"
unfoldable pub rule_term : List ℕ → List ℕ → ℕ → Read Term
rule_term file arities at = and_then (term file arities at) (λ t e. pick (ltb (symbols t) rule_symbol_limit) (got t e) fault)

-- "A fact is its symbol and terms", as many as the symbol's arity
unfoldable pub fact : List ℕ → List ℕ → List ℕ → ℕ → Read Fact
fact file arities ars at =
    and_then (below file (length ars) at) (λ y e.
    and_then (many (rule_term file arities) (get_or ars y 0) e) (λ ts f. got (fact_of y ts) f))

-- "premises, actions, conclusions, each a count (8) and facts"
unfoldable pub facts : List ℕ → List ℕ → List ℕ → ℕ → Read (List Fact)
facts file arities ars at = counted file most_facts (fact file arities ars) at

-- the layout of a rule
unfoldable pub layout : List ℕ → List ℕ → List ℕ → ℕ → Read Rule
layout file arities ars at =
    and_then (counted file most_variables (below file sort_count) at) (λ vs e.
    and_then (many (facts file arities ars) list_count e) (λ ps f. got (rule_of_lem vs ps) f))

-- a rule: its variables are declared
unfoldable pub rule : List ℕ → List ℕ → List ℕ → ℕ → Read Rule
rule file arities ars at = and_then (layout file arities ars at) (λ r e. pick (declared r) (got r e) fault)

unfoldable pub own : List ℕ → ℕ → Read Own
own file at = and_then (below file fact_arity_limit at) (λ a e. and_then (below file flag_count e) (λ l f. got (own_of a l) f))

-- the whole file; leftover bytes are a fault
unfoldable pub protocol : List ℕ → Read Protocol
protocol file =
    and_then (counted file most_functions (below file arity_limit) 0) (λ fs e.
    and_then (counted file most_own (own file) e) (λ os f.
    and_then (counted file most_rules (rule file (tag_arities fs) (fact_arities os)) f) (λ rs g.
    pick (eqb g (length file)) (got (protocol_of fs os rs) g) fault)))
