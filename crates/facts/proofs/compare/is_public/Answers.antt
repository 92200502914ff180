-- The name is written behind the argument; a name is its own canonical form, so equal parts are the same message.
use Rattle.facts.specs.Calls.Two.{next_room, parts_inside, parts_test}
use Rattle.facts.specs.Calls.Bytes.{public_test}
use Rattle.facts.specs.Calls.Meaning.{is_public_means}
use borrow.Author.Rules.{rules}
use Rattle.facts.proofs.compare.is_public.Goals as goal

pub put_public-e-requires : goal.put_public-e-requires
put_public-e-requires c =
    let (P, m, f) = c.requires.0 in
    next_room _ _ _ _ c.requires.1 (c.node_fact-a.ensures P m f).put (search rules)

pub same_parts-requires : goal.same_parts-requires
same_parts-requires c =
    let (P, m, f) = c.requires.0 in
    parts_inside _ _ _ _ _ _ _ c.requires.1 (c.node_fact-a.ensures P m f).put c.put_public-e.ensures (search rules) (search rules)

pub returns : goal.returns
returns c =
    λ P m f. is_public_means c.args.x c.args.i m f c.args.name.0 _ (public_test P c.args.x c.args.i m c.args.name.0 _
    (parts_test _ _ _ _ _ _ _ c.requires.1 (c.node_fact-a.ensures P m f).put c.put_public-e.ensures (search rules) (search rules) _
    c.same_parts.ensures))
