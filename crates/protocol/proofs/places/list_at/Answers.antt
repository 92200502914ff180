-- The lists before this one are walked from behind the sorts; where the walk ends, the list begins.
use Rattle.protocol.specs.Places.Ends.{end_walk, list_got, list_none}
use Rattle.protocol.specs.Protocol.Walks.{asks}
use Rattle.protocol.specs.Protocol.{facts}
use Rattle.number.specs.Reading.{as_read, many}
use Rattle.lists.specs.Lists.{any_by}
use mathlib.Core.Path.{ap, sym, ◌∙◌}
use Rattle.protocol.proofs.places.list_at.Goals as goal

pub returns-in-Some : goal.returns-in-Some
returns-in-Some c =
    end_walk (any_by (any_by (asks 0 0 0))) (many (facts c.args.x.now.file.now c.args.x.now.arities.now c.args.x.now.ars.now) c.args.list
    c.in-Some.e)
    c.end_of.ensures c.some_lists.ensures ∙ sym (list_got _ c.args.x.now.arities.now c.args.x.now.ars.now _ c.args.list
    (sym c.sorts_at.ensures ∙ ap as_read c.in-Some.is))

pub returns-in-None : goal.returns-in-None
returns-in-None c =
    sym (list_none _ c.args.x.now.arities.now c.args.x.now.ars.now _ c.args.list
    (sym c.sorts_at.ensures ∙ ap as_read c.in-None.is))
