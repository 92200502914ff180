-- Equal canonical bytes are the test of equal arguments, which decides equality by the equations.
use Rattle.facts.specs.Calls.Laws.{fact_listed}
use Rattle.facts.specs.Calls.Bytes.{arguments_test}
use Rattle.facts.specs.Calls.Meaning.{same_argument_means}
use Rattle.facts.proofs.compare.same_argument.Goals as goal

pub fact_place-k-requires : goal.fact_place-k-requires
fact_place-k-requires c =
    let (P, m, n, f) = c.requires.0 in
    (c.args.s.now, P, m, fact_listed f.first)

pub fact_place-l-requires : goal.fact_place-l-requires
fact_place-l-requires c =
    let (P, m, n, f) = c.requires.0 in
    (c.args.s.now, P, n, fact_listed f.second)

pub returns : goal.returns
returns c =
    λ P m n f. same_argument_means c.args.x c.args.i m f.first c.args.y c.args.j n f.second _
    (arguments_test P c.args.x c.args.i m c.args.y c.args.j n _ (c.compare.ensures P m n f))
