-- The three cases of `Wanted`.
use Rattle.facts.specs.Writing.Whole.{ready_as, done_as}
use Rattle.facts.proofs.writing.wanted_into.Goals as goal

pub fact_into-requires : goal.fact_into-requires
fact_into-requires c =
    ready_as _ _ _ _ _ _ c.in-All.is _ _ c.requires

pub argument_into-requires : goal.argument_into-requires
argument_into-requires c =
    ready_as _ _ _ _ _ _ c.in-One.is _ _ c.requires

pub plain_into-requires : goal.plain_into-requires
plain_into-requires c =
    ready_as _ _ _ _ _ _ c.in-Plain.is _ _ c.requires

pub returns-in-All : goal.returns-in-All
returns-in-All c =
    done_as _ _ _ _ _ _ c.in-All.is _ _ _ _ c.fact_into.ensures

pub returns-in-One : goal.returns-in-One
returns-in-One c =
    done_as _ _ _ _ _ _ c.in-One.is _ _ _ _ c.argument_into.ensures

pub returns-in-Plain : goal.returns-in-Plain
returns-in-Plain c =
    done_as _ _ _ _ _ _ c.in-Plain.is _ _ _ _ c.plain_into.ensures
