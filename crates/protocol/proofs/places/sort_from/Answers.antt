-- Behind v sorts stands the sort of variable v.
use Rattle.protocol.specs.Places.Ends.{from_got, from_none}
use Rattle.protocol.specs.Places.{value_of}
use Rattle.number.specs.Reading.{as_read}
use mathlib.Core.Path.{ap, sym, ◌∙◌}
use Rattle.protocol.proofs.places.sort_from.Goals as goal

pub returns-in-Some : goal.returns-in-Some
returns-in-Some c =
    c.value_below.ensures ∙ sym (ap value_of (from_got _ _ _ (sym c.sorts_end.ensures ∙ ap as_read
    c.in-Some.is)))

pub returns-in-None : goal.returns-in-None
returns-in-None c =
    sym (ap value_of (from_none _ _ _ (sym c.sorts_end.ensures ∙ ap as_read c.in-None.is)))
