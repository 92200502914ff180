-- The part that term_part hands back is as long as the term.
use native.Mathlib.Omega.{arith}
use Rattle.product.proofs.PowerPaths.{behind_is, behind_within}
use Rattle.product.proofs.behind.Goals as goal

pub overflow_add-result : goal.overflow_add-result
overflow_add-result c =
    let r = c.args in let w = behind_within r.arities.now r.src.now r.at (λ i. (c.type_inv.src i).fits) _
    c.term_part.ensures c.requires in omega arith

pub returns : goal.returns
returns c =
    let r = c.args in behind_is r.arities.now r.src.now r.at (λ i. (c.type_inv.src i).fits) _
    c.term_part.ensures
