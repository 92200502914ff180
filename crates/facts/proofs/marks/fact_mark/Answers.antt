-- The mark of the fact that is kept.
use Rattle.facts.proofs.marks.fact_mark.Goals as goal

pub returns : goal.returns
returns c =
    λ P m h. (c.keep_fact.ensures P m h).mark_is
