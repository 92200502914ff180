-- What reads at a place of a rule's text, and the test of what is looked for, as code has the two.
use Rattle.std.specs.Prelude.{ℕ, List, Bool}
use Rattle.number.specs.Reading.{Read}
use Rattle.term.specs.Term.{Term}
use Rattle.protocol.specs.Protocol.{Fact, Rule, rule_term, fact, facts, layout, rule}
use Rattle.protocol.specs.Protocol.Walks.{leaf_at, asks, rule_asks}
use Rattle.protocol.specs.declared.walks.RuleText.{RuleText}
use Rattle.protocol.specs.declared.walks.Wanted.{Wanted}

abbrev pub term_in : RuleText → ℕ → Read Term
term_in x = rule_term x.file.now x.arities.now

abbrev pub fact_in : RuleText → ℕ → Read Fact
fact_in x = fact x.file.now x.arities.now x.ars.now

abbrev pub facts_in : RuleText → ℕ → Read (List Fact)
facts_in x = facts x.file.now x.arities.now x.ars.now

abbrev pub layout_in : RuleText → ℕ → Read Rule
layout_in x = layout x.file.now x.arities.now x.ars.now

abbrev pub rule_in : RuleText → ℕ → Read Rule
rule_in x = rule x.file.now x.arities.now x.ars.now

-- of a leaf, of a fact, of a rule
abbrev pub leaf_for : Wanted → Term → Bool
leaf_for w = leaf_at w.kind w.lo w.hi

abbrev pub asks_for : Wanted → Fact → Bool
asks_for w = asks w.kind w.lo w.hi

abbrev pub rule_asks_for : Wanted → Rule → Bool
rule_asks_for w = rule_asks w.kind w.lo w.hi
