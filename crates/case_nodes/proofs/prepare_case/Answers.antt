-- A protocol within its limit that is sound is prepared.
use Rattle.case_nodes.proofs.prepare_case.Goals as goal

pub returns-in-Ok : goal.returns-in-Ok
returns-in-Ok c = let h = c.in-Ok.ensures.made in (h.its, h.is)
