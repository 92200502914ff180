-- A list after the other: what each call tells is what is seen of the list that reads there.
use borrow.Author.Rules.{rules}
use Rattle.number.specs.Reading.{seen}
use Rattle.lists.specs.Lists.{any_by}
use Rattle.protocol.specs.Protocol.{facts}
use Rattle.protocol.specs.Protocol.Walks.{asks, walks_seen}
use mathlib.Core.Path.{◌∙◌}
use Rattle.protocol.proofs.walks.some_lists.Goals as goal

pub returns : goal.returns
returns c =
    c.repeated.ensures (λ i. seen (any_by (asks c.args.w.kind c.args.w.lo c.args.w.hi))
    (facts c.args.x.now.file.now c.args.x.now.arities.now c.args.x.now.ars.now i)) (λ i r k. search rules)
    ∙ walks_seen (any_by (asks c.args.w.kind c.args.w.lo c.args.w.hi))
    (facts c.args.x.now.file.now c.args.x.now.arities.now c.args.x.now.ars.now) c.args.n c.args.at
