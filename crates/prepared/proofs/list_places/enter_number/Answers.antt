-- A number with a rule has its three lists entered; one without has none to enter.
use lib.Seq.{length-take-le}
use native.Mathlib.Omega.{arith}
use mathlib.Core.Path.{sym}
use Rattle.prepared.specs.Sections.{body_length}
use Rattle.prepared.specs.Prepared.{body_of}
use Rattle.prepared.specs.Lists.Numbers.{lists_of, none_found, lists_none}
use Rattle.prepared.proofs.list_places.enter_number.Goals as goal

pub slice_bounds-rule_place-end-2 : goal.slice_bounds-rule_place-end-2
slice_bounds-rule_place-end-2 c =
    sym (length-take-le body_length c.args.p.now (omega (arith, c.requires.1)))

pub enter_lists-requires : goal.enter_lists-requires
enter_lists-requires c =
    (c.requires.0, c.requires.1, lists_of (body_of c.args.p.now) c.requires.2 c.args.n c.rule_place.ensures _ c.in-Some.is)

pub returns-in_default : goal.returns-in_default
returns-in_default c =
    lists_none c.args.p.now c.args.n (none_found (body_of c.args.p.now) c.requires.2 c.args.n c.rule_place.ensures
    c.in_default.is)
