-- The place behind the count is that of fact 0, whatever the arities are.
use mathlib.Core.Path.{◌∙◌}
use Rattle.prepared.specs.Prepared.{slots_of, arities_of}
use Rattle.protocol.specs.Places.Ends.{fact_first}
use Rattle.prepared.proofs.finding.first_fact.Goals as goal

pub returns : goal.returns
returns c =
    c.first_fact.ensures ∙ fact_first c.args.p.now (slots_of c.args.p.now)
    (arities_of c.args.p.now) c.args.list
