-- The test of zero is `linear`'s.
use borrow.Author.Tests.{eq-eqb, ne_eqb}
use Rattle.prepared.proofs.filling.linear_of.Goals as goal

pub returns-then-flag-eq0 : goal.returns-then-flag-eq0
returns-then-flag-eq0 c =
    simp (eq-eqb _ _ c.if-flag-eq0.true)

pub returns-else-flag-eq0 : goal.returns-else-flag-eq0
returns-else-flag-eq0 c =
    simp (ne_eqb _ _ c.if-flag-eq0.false)
