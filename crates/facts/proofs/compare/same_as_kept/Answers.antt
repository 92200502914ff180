-- The other fact is written behind the one that is kept, which stays; so the test of the two parts, and of the symbols, is that of the facts.
use mathlib.Core.Path.{refl}
use Rattle.facts.specs.Calls.Meaning.{fact_formed}
use Rattle.facts.specs.Kept.{kept_room, behind_inside, kept_stays, same_as}
use borrow.Author.Rules.{rules}
use Rattle.facts.proofs.compare.same_as_kept.Goals as goal

pub node_fact-b-requires : goal.node_fact-b-requires
node_fact-b-requires c =
    (c.requires.0, kept_room c.args.out.now c.args.out.now c.args.kept 0 c.requires.1 c.requires.2)

pub same_parts-same-requires : goal.same_parts-same-requires
same_parts-same-requires c =
    let (P, n, f) = c.requires.0 in behind_inside _ _ c.args.kept _ c.requires.1 c.requires.2 _ (c.node_fact-b.ensures P n f).put (search rules)

pub returns : goal.returns
returns c =
    record {
      same = λ P n f g v h. same_as _ _ c.args.kept _ c.requires.1 c.requires.2 _ (c.node_fact-b.ensures P n f).put (search rules) P
          f.node.prepared.body.within _ (fact_formed f) refl _ (c.node_fact-b.ensures P n f).symbols _ c.same_parts-same.ensures g v h;
      stays = (let (P, n, f) = c.requires.0 in kept_stays _ _ c.args.kept _ c.requires.1 c.requires.2 _ (c.node_fact-b.ensures P n f).put (search rules));
    }
