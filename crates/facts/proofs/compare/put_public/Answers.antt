-- Tag and number are written end to end; the room holds any name.
use Rattle.facts.specs.Calls.Names.{tag_room, name_room, name_put}
use borrow.Author.Rules.{rules}
use Rattle.facts.proofs.compare.put_public.Goals as goal

pub write_number-e-requires : goal.write_number-e-requires
write_number-e-requires c =
    tag_room _ _ c.requires

pub write_number-requires : goal.write_number-requires
write_number-requires c =
    name_room _ _ c.requires _ _ c.write_number-e.ensures.next c.write_number-e.ensures.wrote _ (search rules)

pub returns : goal.returns
returns c =
    name_put _ _ c.requires _ _ c.write_number-e.ensures.next c.write_number-e.ensures.wrote _ (search rules) _ _
    c.write_number.ensures.next c.write_number.ensures.wrote
