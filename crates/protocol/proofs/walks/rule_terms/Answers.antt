-- A term after the other: what each call tells is what is seen of the term that reads there.
use borrow.Author.Rules.{rules}
use Rattle.number.specs.Reading.{seen}
use Rattle.protocol.specs.Protocol.{rule_term}
use Rattle.protocol.specs.Protocol.Walks.{leaf_at, walks_seen}
use mathlib.Core.Path.{◌∙◌}
use Rattle.protocol.proofs.walks.rule_terms.Goals as goal

pub returns : goal.returns
returns c =
    c.repeated.ensures (λ i. seen (leaf_at c.args.w.kind c.args.w.lo c.args.w.hi) (rule_term c.args.x.now.file.now c.args.x.now.arities.now i))
    (λ i r k. search rules) ∙ walks_seen (leaf_at c.args.w.kind c.args.w.lo c.args.w.hi)
    (rule_term c.args.x.now.file.now c.args.x.now.arities.now) c.args.n c.args.at
