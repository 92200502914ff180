-- Equal symbols and equal bytes decide by the equations, since facts of one symbol have as many arguments; facts that are equal as they stand pass.
use Rattle.facts.specs.Calls.Meaning.{fact_formed, same_fact_means}
use Rattle.facts.specs.Calls.Laws.{fact_listed, plains_in}
use Rattle.facts.specs.Calls.Bytes.{same_by_bytes, same_by_plain}
use Rattle.facts.proofs.compare.same_fact.Goals as goal

pub fact_place-i-requires : goal.fact_place-i-requires
fact_place-i-requires c =
    let (P, m, n, f) = c.requires.0 in
    (c.args.s.now, P, m, fact_listed f.first)

pub fact_place-j-requires : goal.fact_place-j-requires
fact_place-j-requires c =
    let (P, m, n, f) = c.requires.0 in
    (c.args.s.now, P, n, fact_listed f.second)

pub compare-a-requires : goal.compare-a-requires
compare-a-requires c =
    let (P, m, n, f) = c.requires.0 in
    (c.fact_place-i.ensures, c.fact_place-j.ensures, (P, m, n, plains_in f), c.requires.1)

pub returns-then-a : goal.returns-then-a
returns-then-a c =
    λ P m n f. same_fact_means _ _ m n f.first f.second _ (same_by_plain P _ _ (fact_formed f.first) (fact_formed f.second) _
    (c.compare-a.ensures P m n (plains_in f)) c.if-a.true)

pub returns : goal.returns
returns c =
    λ P m n f. same_fact_means _ _ m n f.first f.second _ (same_by_bytes P _ _ (fact_formed f.first) (fact_formed f.second) _
    (c.compare-b.ensures P m n f))
