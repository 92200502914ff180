-- The figures of a protocol file, each under its words in document 01. What is below a limit is at most the most.
use Rattle.std.specs.Prelude.{ℕ, suc, ◌+◌}

-- "each arity (0 to 4)", of a free function
abbrev pub most_arity : ℕ
most_arity = 4

abbrev pub arity_limit : ℕ
arity_limit = suc most_arity

-- "count of own fact symbols (32)", "own ones start at 4", and so many symbols in all
abbrev pub most_own : ℕ
most_own = 32

abbrev pub first_own : ℕ
first_own = 4

abbrev pub symbol_count : ℕ
symbol_count = first_own + most_own

-- "each arity (0 to 8) and 0 linear or 1 persistent"
abbrev pub most_fact_arity : ℕ
most_fact_arity = 8

abbrev pub fact_arity_limit : ℕ
fact_arity_limit = suc most_fact_arity

abbrev pub flag_count : ℕ
flag_count = 2

-- "count of rules (64)"
abbrev pub most_rules : ℕ
most_rules = 64

-- "count of variables (16), each sort (0 message, 1 fresh, 2 public)"
abbrev pub most_variables : ℕ
most_variables = 16

abbrev pub variable_limit : ℕ
variable_limit = suc most_variables

abbrev pub message_sort : ℕ
message_sort = 0

abbrev pub fresh_sort : ℕ
fresh_sort = 1

abbrev pub public_sort : ℕ
public_sort = 2

abbrev pub sort_count : ℕ
sort_count = 3

-- "then premises, actions, conclusions, each a count (8) and facts": the lists by number
abbrev pub premise_list : ℕ
premise_list = 0

abbrev pub action_list : ℕ
action_list = 1

abbrev pub conclusion_list : ℕ
conclusion_list = 2

abbrev pub list_count : ℕ
list_count = 3

abbrev pub most_facts : ℕ
most_facts = 8

abbrev pub fact_limit : ℕ
fact_limit = suc most_facts

-- "a rule's term has at most 64 symbols"
abbrev pub most_rule_symbols : ℕ
most_rule_symbols = 64

abbrev pub rule_symbol_limit : ℕ
rule_symbol_limit = suc most_rule_symbols

-- a test of a fact is of a leaf of one of the kinds 0 to 2, or, by this number, of its symbol
abbrev pub symbol_kind : ℕ
symbol_kind = 3
