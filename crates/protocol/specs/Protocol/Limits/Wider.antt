-- A protocol that keeps to the limits with numbers below one limit keeps to them with a larger one.
use Rattle.std.specs.Prelude.{ℕ, ◌≤◌, List}
use Rattle.lists.specs.All.Laws.{all_map}
use Rattle.term.specs.Term.{Term}
use Rattle.term.specs.Term.Laws.{below_wider}
use Rattle.term.specs.Arity.{tag_arities}
use Rattle.protocol.specs.Protocol.{Fact, Rule, Protocol, fact_arities}
use Rattle.protocol.specs.Protocol.Limits.{TermBelow, FactBelow, FactsBelow, LayoutBelow, RuleBelow, ProtocolBelow}

module _ (limit more : ℕ) (wider : limit ≤ more) where
  module _ (arities : List ℕ) where
    term_wider : (t : Term) → TermBelow limit arities t → TermBelow more arities t
    term_wider t h = record { formed = h.formed; range = below_wider limit more wider t h.range; short = h.short }

    module _ (ars : List ℕ) where
      fact_wider : (f : Fact) → FactBelow limit arities ars f → FactBelow more arities ars f
      fact_wider f h = record {
        known = h.known;
        takes = h.takes;
        each = all_map (TermBelow limit arities) (TermBelow more arities) term_wider f.terms h.each;
      }

      facts_wider : (fs : List Fact) → FactsBelow limit arities ars fs → FactsBelow more arities ars fs
      facts_wider fs h = record {
        few = h.few;
        each = all_map (FactBelow limit arities ars) (FactBelow more arities ars) fact_wider fs h.each;
      }

      layout_wider : (r : Rule) → LayoutBelow limit arities ars r → LayoutBelow more arities ars r
      layout_wider r h = record {
        few = h.few;
        sorted = h.sorted;
        three = h.three;
        each = all_map (FactsBelow limit arities ars) (FactsBelow more arities ars) facts_wider r.lists h.each;
      }

      rule_wider : (r : Rule) → RuleBelow limit arities ars r → RuleBelow more arities ars r
      rule_wider r h = record { laid = layout_wider r h.laid; bound = h.bound }

  pub protocol_wider : (p : Protocol) → ProtocolBelow limit p → ProtocolBelow more p
  protocol_wider p h = record {
    few_functions = h.few_functions;
    arities = h.arities;
    few_symbols = h.few_symbols;
    symbols = h.symbols;
    few_rules = h.few_rules;
    rules =
        let a = tag_arities p.functions in
        let b = fact_arities p.symbols in
        all_map (RuleBelow limit a b) (RuleBelow more a b) (rule_wider a b) p.rules h.rules;
  }
