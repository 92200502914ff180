-- A variable's value is moved down, and a constant is copied.
use Rattle.canonical.proofs.Rules.{given_some, given_two, given_small, given_met, given_bounds, given_value, given_room, given_constant}
use Rattle.canonical.proofs.put_result.Goals as goal

pub bounds-res-0 : goal.bounds-res-0
bounds-res-0 c =
    given_some _ _ _ _ c.requires

pub copy_into-requires : goal.copy_into-requires
copy_into-requires c =
    given_room _ _ _ _ c.if-res-ne-A_VARIABLE.true c.requires

pub returns-then-res-ne-A_VARIABLE : goal.returns-then-res-ne-A_VARIABLE
returns-then-res-ne-A_VARIABLE c =
    given_constant _ _ _ _ c.if-res-ne-A_VARIABLE.true _ _ c.copy_into.ensures.next c.copy_into.ensures.wrote

pub bounds-res-1 : goal.bounds-res-1
bounds-res-1 c =
    given_two _ _ _ _ c.if-res-ne-A_VARIABLE.false c.requires

pub bounds : goal.bounds
bounds c =
    given_small _ _ _ _ c.if-res-ne-A_VARIABLE.false c.requires

pub move_to-requires : goal.move_to-requires
move_to-requires c =
    given_bounds _ _ _ _ c.if-res-ne-A_VARIABLE.false _ c.in-Some.is c.requires

pub returns-in-Some : goal.returns-in-Some
returns-in-Some c =
    given_value _ _ _ _ c.if-res-ne-A_VARIABLE.false _ c.in-Some.is _ _ c.move_to.ensures

pub returns-in-None : goal.returns-in-None
returns-in-None c =
    λ q g. given_met _ _ _ _ c.if-res-ne-A_VARIABLE.false c.in-None.is q g
