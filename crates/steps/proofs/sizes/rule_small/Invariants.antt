-- The invariant is that the lists from j on decide; the prepared protocol has each list's place.
use Rattle.steps.specs.Values.Parts.{AllLeft, list_small}
use Rattle.steps.specs.Table.Laws.{RuleOf}
use Rattle.steps.specs.Values.Weights.{size_in}
use Rattle.protocol.specs.Protocol.{Rule, Protocol}
use Rattle.lists.specs.Asks.{Promises₂}
use mathlib.Core.List.{[]}
use Rattle.steps.proofs.sizes.rule_small.Given as goal

abbrev pub invariant-loop-j : goal.invariant-loop-j
invariant-loop-j l =
    Promises₂ (RuleOf l.p l.number) (λ (P : Protocol) (u : Rule). AllLeft (list_small (size_in l.sizes)) [] u.lists l.j)
