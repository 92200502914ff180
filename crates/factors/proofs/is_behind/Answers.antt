-- The leaf is more than the last entry by its first byte or its second, and the entries ascend, so it is more than each; an empty table has none.
use Rattle.factors.proofs.EnterPaths.{behind_first, behind_second}
use borrow.Author.Tests.{ltb-true}
use native.Mathlib.Omega.{arith}
use Rattle.factors.proofs.is_behind.Goals as goal

pub returns-then-src-x : goal.returns-then-src-x
returns-then-src-x c =
    λ z. behind_first _ _ _ _ c.requires.0 c.requires.1 c.requires.3 c.if-is_empty.ensures (omega arith) (omega arith) (omega arith)

pub returns-then-src-x-2 : goal.returns-then-src-x-2
returns-then-src-x-2 c =
    λ z. behind_second _ _ _ _ c.requires.0 c.requires.1 c.requires.3 c.if-is_empty.ensures (omega arith) (omega arith) (omega arith) (ltb-true _ _ z)
