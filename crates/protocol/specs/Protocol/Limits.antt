-- The limits of a protocol file, as one predicate: "A figure in brackets after a file or a count is the most allowed." They are said with numbers
-- below any limit, and hold with the numbers that a file can hold.
use Rattle.std.specs.Prelude.{ℕ, ◌≤◌, ◌<◌, List, true, ◌≡◌, length, get_or}
use Rattle.number.specs.Groups.{number_limit}
use Rattle.term.specs.Tags.{most_functions}
use Rattle.protocol.specs.Figures.{most_own, flag_count, most_rules, arity_limit, fact_arity_limit}
use Rattle.protocol.specs.Figures.{most_variables, sort_count, list_count, most_facts, most_rule_symbols}
use Rattle.lists.specs.All.{All}
use Rattle.term.specs.Term.{Term, symbols, Formed, Below}
use Rattle.term.specs.Arity.{arity, tag_arities}
use Rattle.protocol.specs.Protocol.{Fact, Rule, Own, Protocol, fact_arities, declared}
-- the parts, with the numbers that a file can hold
pub mod Parts
-- a larger limit of numbers
pub mod Wider

-- numbers below `limit`, under the arities of functions, a slot for each tag (arities), and of fact symbols (ars)
module _ (limit : ℕ) (arities : List ℕ) where
  -- "a rule's term has at most 64 symbols", each a declared function's
  pub record TermBelow (t : Term) : Type 0 where
    pub formed : Formed (arity arities) t
    pub range : Below limit t
    pub short : symbols t ≤ most_rule_symbols

  module _ (ars : List ℕ) where
    pub record FactBelow (f : Fact) : Type 0 where
      pub known : f.symbol < length ars
      pub takes : length f.terms ≡ get_or ars f.symbol 0
      pub each : All TermBelow f.terms

    -- "each a count (8) and facts"
    pub record FactsBelow (fs : List Fact) : Type 0 where
      pub few : length fs ≤ most_facts
      pub each : All FactBelow fs

    -- the layout of a rule: "count of variables (16), each sort (0 message, 1 fresh, 2 public)", and three lists
    pub record LayoutBelow (r : Rule) : Type 0 where
      pub few : length r.sorts ≤ most_variables
      pub sorted : All (λ v. v < sort_count) r.sorts
      pub three : length r.lists ≡ list_count
      pub each : All FactsBelow r.lists

    pub record RuleBelow (r : Rule) : Type 0 where
      pub laid : LayoutBelow r
      pub bound : declared r ≡ true

-- "each arity (0 to 8) and 0 linear or 1 persistent"
pub record OwnWithin (o : Own) : Type 0 where
  pub small : o.arity < fact_arity_limit
  pub either : o.flag < flag_count

pub record ProtocolBelow (limit : ℕ) (p : Protocol) : Type 0 where
  -- "count of free functions (16), each arity (0 to 4)"
  pub few_functions : length p.functions ≤ most_functions
  pub arities : All (λ a. a < arity_limit) p.functions
  -- "count of own fact symbols (32)"
  pub few_symbols : length p.symbols ≤ most_own
  pub symbols : All OwnWithin p.symbols
  -- "count of rules (64)"
  pub few_rules : length p.rules ≤ most_rules
  pub rules : All (RuleBelow limit (tag_arities p.functions) (fact_arities p.symbols)) p.rules

-- with the numbers that a file can hold
abbrev pub RuleWithin : List ℕ → List ℕ → Rule → Type 0
RuleWithin = RuleBelow number_limit

abbrev pub Within : Protocol → Type 0
Within = ProtocolBelow number_limit
