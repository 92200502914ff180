-- The invariant is that the terms that were passed were seen to end at i with this answer; each turn sees one more.
use Rattle.property.specs.Formula.{Term}
use Rattle.property.specs.Layout.{term_at}
use Rattle.property.specs.Walk.{variable_of, saw}
use Rattle.number.specs.Reading.{many, seen}
use Rattle.lists.specs.Lists.{any_by}
use Rattle.std.proofs.Common.{◌≡◌, Bool}
use Rattle.property.proofs.terms.any_term.Given as goal

abbrev pub invariant-loop : goal.invariant-loop
invariant-loop g l =
    goal.F-IsAlwaysCallable g l.test × ((q : Term → Bool) → ((t : Term) (b : Bool) → goal.F-post g l.fn.test (variable_of t) b → b ≡ q t)
    → seen (any_by q) (many (term_at l.f) l.counter l.at) ≡ saw l.i l.found)
