-- The second fact is written behind the first, which stays, so the two parts compared are their bytes.
use Rattle.facts.specs.Calls.Two.{next_room, parts_inside, parts_test}
use lib.Dec.{eqb}
use mathlib.Core.Path.{ap₂}
use borrow.Author.Rules.{rules}
use Rattle.facts.proofs.compare.compare.Goals as goal

pub write_fact-b-requires : goal.write_fact-b-requires
write_fact-b-requires c =
    let (P, m, n, f) = c.requires.2 in
    (c.requires.1, (P, n, f.second), next_room _ _ _ _ c.requires.3 (c.write_fact-a.ensures P m f.first).put (search rules))

pub same_parts-requires : goal.same_parts-requires
same_parts-requires c =
    let (P, m, n, f) = c.requires.2 in
    parts_inside _ _ _ _ _ _ _ c.requires.3 (c.write_fact-a.ensures P m f.first).put (c.write_fact-b.ensures P n f.second).put (search rules)
    (search rules)

pub returns : goal.returns
returns c =
    λ P m n f.
    let a = c.write_fact-a.ensures P m f.first in
    let b = c.write_fact-b.ensures P n f.second in
    record {
      symbols = ap₂ eqb a.symbols b.symbols;
      bytes = parts_test _ _ _ _ _ _ _ c.requires.3 a.put b.put (search rules) (search rules) _ c.same_parts.ensures;
    }
