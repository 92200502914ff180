-- A number past the last, an entry of 0, any other entry: the three cases of what `Body` says of the places.
use Rattle.prepared.specs.Finding.{rule_past, found_none, found_some}
use native.Mathlib.Omega.{arith}
use Rattle.prepared.proofs.finding.rule_place.Goals as goal

pub returns-then-number-ge-RULE_COUNT : goal.returns-then-number-ge-RULE_COUNT
returns-then-number-ge-RULE_COUNT c =
    λ P f. rule_past P f.within _ c.if-number-ge-RULE_COUNT.true

pub returns-then-place-eq0 : goal.returns-then-place-eq0
returns-then-place-eq0 c =
    λ P f. found_none _ P f _ (omega arith) _ c.place_of-place.ensures c.if-place-eq0.true

pub returns-else-place-eq0 : goal.returns-else-place-eq0
returns-else-place-eq0 c =
    λ P f. found_some _ P f _ (omega arith) _ c.place_of-place.ensures c.if-place-eq0.false
