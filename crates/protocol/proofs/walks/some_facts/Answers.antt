-- A fact after the other: what each call tells is what is seen of the fact that reads there.
use borrow.Author.Rules.{rules}
use Rattle.number.specs.Reading.{seen}
use Rattle.protocol.specs.Protocol.{fact}
use Rattle.protocol.specs.Protocol.Walks.{asks, walks_seen}
use mathlib.Core.Path.{◌∙◌}
use Rattle.protocol.proofs.walks.some_facts.Goals as goal

pub returns : goal.returns
returns c =
    c.repeated.ensures (λ i. seen (asks c.args.w.kind c.args.w.lo c.args.w.hi)
    (fact c.args.x.now.file.now c.args.x.now.arities.now c.args.x.now.ars.now i)) (λ i r k. search rules)
    ∙ walks_seen (asks c.args.w.kind c.args.w.lo c.args.w.hi)
    (fact c.args.x.now.file.now c.args.x.now.arities.now c.args.x.now.ars.now) c.args.n c.args.at
