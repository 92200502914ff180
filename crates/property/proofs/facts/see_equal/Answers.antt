-- Two terms.
use Rattle.property.specs.Walk.Facts.{equal_two}
use Rattle.std.proofs.Common.{map}
use mathlib.Core.List.{[]}
use mathlib.Core.Path.{◌∙◌}
use Rattle.property.proofs.facts.see_equal.Goals as goal

pub returns : goal.returns
returns g c = c.fit_terms.ensures ∙ equal_two (map g.S.AsSort.meaning c.args.sorts.now) c.args.f.now [] c.args.at
