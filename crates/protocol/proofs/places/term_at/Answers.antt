-- Term 0 stands behind the symbol; term j behind j terms, which rule_terms walks.
use mathlib.Core.Path.{ap, sym, ◌∙◌}
use Rattle.lists.specs.Lists.{any_by}
use Rattle.number.specs.Reading.{as_read, many}
use Rattle.protocol.specs.Protocol.{rule_term}
use Rattle.protocol.specs.Protocol.Walks.{leaf_at}
use Rattle.protocol.specs.Places.Ends.{end_walk, first_place, term_got, term_none}
use Rattle.protocol.proofs.places.term_at.Goals as goal

pub returns-then-j-eq0 : goal.returns-then-j-eq0
returns-then-j-eq0 c =
    first_place (rule_term c.args.x.now.file.now c.args.x.now.arities.now) c.args.j c.in-Some.e c.if-j-eq0.true ∙ sym
    (term_got _ c.args.x.now.arities.now c.args.x.now.ars.now _ c.args.j (sym c.below.ensures ∙ ap as_read c.in-Some.is))

pub returns-else-j-eq0 : goal.returns-else-j-eq0
returns-else-j-eq0 c =
    end_walk (any_by (leaf_at 0 0 0)) (many (rule_term c.args.x.now.file.now c.args.x.now.arities.now) c.args.j c.in-Some.e)
    c.end_of.ensures c.rule_terms.ensures ∙ sym (term_got _ c.args.x.now.arities.now c.args.x.now.ars.now _ c.args.j
    (sym c.below.ensures ∙ ap as_read c.in-Some.is))

pub returns-in-None : goal.returns-in-None
returns-in-None c =
    sym (term_none _ c.args.x.now.arities.now c.args.x.now.ars.now _ c.args.j
    (sym c.below.ensures ∙ ap as_read c.in-None.is))
