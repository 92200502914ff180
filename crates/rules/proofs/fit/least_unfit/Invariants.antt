-- The invariant is that none of the first j rules is unfit, so the first that rule_fits denies is the least.
use Rattle.rules.specs.Fit.Laws.{unfit}
use Rattle.lists.specs.Below.{least}
use Rattle.protocol.specs.Index.{Placed}
use Rattle.protocol.specs.Protocol.{Rule, empty_rule, rule}
use mathlib.Core.Path.{◌≡◌}
use mathlib.Core.List.{List}
use lib.ListN.{length}
use Rattle.rules.proofs.fit.least_unfit.Given as goal

abbrev pub invariant-loop-j : goal.invariant-loop-j
invariant-loop-j l =
    ((rs : List Rule) → Placed (rule l.text.file.now l.text.arities.now l.text.ars.now) empty_rule l.places rs (length l.places) → least (unfit rs) l.j ≡ 0)
