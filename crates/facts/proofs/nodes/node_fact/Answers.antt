-- At the place that is found, `write_fact` promises just this.
use Rattle.facts.specs.Calls.Laws.{fact_listed}
use Rattle.facts.proofs.nodes.node_fact.Goals as goal

pub fact_place-place-requires : goal.fact_place-place-requires
fact_place-place-requires c =
    let (P, m, f) = c.requires.0 in
    (c.args.s.now, P, m, fact_listed f)
