-- The tables are those of the nodes' trace, so what the judge answers of their numbers it answers of the trace.
use Rattle.protocol.specs.Protocol.{fact_arities}
use Rattle.verdict.specs.Judged.Joined.{posed_property, lent_shape, lent_truth}
use Rattle.verdict.proofs.verdict_of.Goals as goal

pub active_nodes-active-requires : goal.active_nodes-active-requires
active_nodes-active-requires c =
    let (P, xs, φ, d) = c.requires in
    d.many

pub holds-truth-requires : goal.holds-truth-requires
holds-truth-requires c =
    let (P, xs, φ, d) = c.requires in
    ((fact_arities P.symbols, φ, posed_property d.posed), lent_shape d)

pub returns : goal.returns
returns c =
    λ P xs φ d.
    record {
      truth_is = lent_truth d (c.holds-truth.ensures (fact_arities P.symbols) φ (posed_property d.posed));
      active_is = c.active_nodes-active.ensures P xs d.tables.begun d.posed.right.stand.count;
    }
