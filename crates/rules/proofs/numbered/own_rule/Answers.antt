-- The place of rule k where there are more than k, else none.
use Rattle.rules.specs.Numbered.Found.{place_found_lem, place_none}
use mathlib.Core.Path.{sym}
use lib.ListN.{length}
use Rattle.rules.proofs.numbered.own_rule.Goals as goal

pub returns-then-k-places : goal.returns-then-k-places
returns-then-k-places c =
    sym (place_found_lem c.args.places.now (length c.args.places.now) c.args.k c.if-k-places.true)

pub returns-else-k-places : goal.returns-else-k-places
returns-else-k-places c =
    sym (place_none c.args.places.now (length c.args.places.now) c.args.k c.if-k-places.false)
