-- The first free conclusion that is the same is what the definition takes; its edge is the next, and what follows goes on without it.
use mathlib.Core.Bool.{true, false}
use mathlib.Core.Path.{refl}
use Rattle.lists.specs.Tests.{true_false}
use native.Mathlib.Omega.{arith}
use Rattle.facts.specs.Owed.{room_kept, room_start}
use Rattle.facts.specs.Calls.Laws.{fact_listed}
use Rattle.writer.specs.Search.Laws.{found_at, found_nothing}
use Rattle.writer.specs.Sources.Laws.{premise_there, premise_bounds, premise_search, premise_unfed, premise_fed, source_bounds, source_inside}
use Rattle.writer.proofs.sources.feed_premise.Goals as goal

pub keep_fact-kept-requires : goal.keep_fact-kept-requires
keep_fact-kept-requires c =
    let (P, xs, h) = c.requires.0 in ((P, _, premise_there h), room_start c.requires.1)

pub find_source-requires : goal.find_source-requires
find_source-requires c =
    let (P, xs, h) = c.requires.0 in ((P, xs, premise_search h (c.keep_fact-kept.ensures P _ (premise_there h))), room_kept _ _ _ c.work-1.given c.requires.1)

pub take_source-requires : goal.take_source-requires
take_source-requires c =
    let (P, xs, h) = c.requires.0 in let q = premise_search h (c.keep_fact-kept.ensures P _ (premise_there h)) in let first = found_at q
    c.in-Some.is (c.find_source.ensures P xs q) in ((_, P, _, fact_listed (premise_there h)), source_inside h first)

pub put_edge-requires : goal.put_edge-requires
put_edge-requires c =
    let (P, xs, h) = c.requires.0 in let q = premise_search h (c.keep_fact-kept.ensures P _ (premise_there h)) in let first = found_at q c.in-Some.is
    (c.find_source.ensures P xs q) in let b = premise_bounds h in (omega (arith, b.3), b.2, source_bounds h first, b.0, b.1)

pub returns-in-Some : goal.returns-in-Some
returns-in-Some c =
    λ P xs h. let q = premise_search h (c.keep_fact-kept.ensures P _ (premise_there h)) in let first = found_at q c.in-Some.is
    (c.find_source.ensures P xs q) in record {
      fed = λ z. premise_fed h first (c.take_source.ensures _ P _ (fact_listed (premise_there h)))
          c.put_edge.ensures;
      unfed = λ z. true_false true refl z;
    }

pub returns-in-None : goal.returns-in-None
returns-in-None c =
    λ P xs h. let q = premise_search h (c.keep_fact-kept.ensures P _ (premise_there h)) in record
    { fed = λ z. true_false false z refl; unfed = λ z. premise_unfed h (found_nothing q c.in-None.is (c.find_source.ensures P xs q)) }
