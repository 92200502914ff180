-- The sorts begin behind the count of variables.
use Rattle.protocol.specs.Places.Ends.{sort_got, sort_none}
use Rattle.protocol.specs.Places.{value_of}
use Rattle.number.specs.Reading.{as_read}
use mathlib.Core.Path.{ap, sym, ◌∙◌}
use Rattle.protocol.proofs.places.sort_of.Goals as goal

pub returns-in-Some : goal.returns-in-Some
returns-in-Some c =
    c.sort_from.ensures ∙ sym (ap value_of (sort_got _ _ _ (sym c.below.ensures ∙ ap as_read
    c.in-Some.is)))

pub returns-in-None : goal.returns-in-None
returns-in-None c =
    sym (ap value_of (sort_none _ _ _ (sym c.below.ensures ∙ ap as_read c.in-None.is)))
