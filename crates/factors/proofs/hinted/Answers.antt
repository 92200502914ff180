-- Two bytes each, and the same: the entry is the leaf, and those below it come before, as the entries ascend.
use Rattle.factors.proofs.EnterPaths.{same_leaf}
use native.Mathlib.Omega.{arith}
use Rattle.factors.proofs.hinted.Goals as goal

pub returns : goal.returns
returns c =
    same_leaf _ _ _ _ _ c.requires.0 c.requires.1 c.requires.3 (omega arith) (omega arith) (omega arith) (omega arith) (omega arith)
