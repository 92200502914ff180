-- The count that stands at the list's place is the number of the rule's facts, and so of the node's.
use Rattle.facts.specs.Rules.{list_counted}
use Rattle.facts.proofs.counts.fact_count.Goals as goal

pub returns : goal.returns
returns c =
    λ s P x h. list_counted h _ c.requires.1 _ _ c.list_start-start.ensures c.count_of.ensures
