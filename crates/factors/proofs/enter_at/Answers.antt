-- The part that term_part hands back is the factor's bytes, which is what `enter` asks of its key.
use mathlib.Core.Path.{refl}
use native.Mathlib.Omega.{arith}
use Rattle.factors.proofs.EnterPaths.{one_asks, one_short, one_entered, walked, walked_end}
use Rattle.factors.proofs.enter_at.Goals as goal

pub enter-p-requires : goal.enter-p-requires
enter-p-requires c =
    let r = c.args in one_asks r.arities.now r.src.now r.entries.now r.put.n r.at _
    (walked r.arities.now r.src.now r.entries.now r.put.n r.at (λ i. (c.type_inv.src i).fits) _
    c.term_part-key.ensures) c.requires

pub overflow_add-result : goal.overflow_add-result
overflow_add-result c =
    let r = c.args in let w = one_short r.arities.now r.src.now r.entries.now r.put.n r.at _
    (walked r.arities.now r.src.now r.entries.now r.put.n r.at (λ i. (c.type_inv.src i).fits) _
    c.term_part-key.ensures) c.requires in omega arith

pub returns : goal.returns
returns c =
    let r = c.args in one_entered r.arities.now r.src.now r.entries.now r.put.n r.at _
    (walked r.arities.now r.src.now r.entries.now r.put.n r.at (λ i. (c.type_inv.src i).fits) _
    c.term_part-key.ensures)
    r.minus _ _ c.enter-p.ensures _
    (walked_end r.arities.now r.src.now r.entries.now r.put.n r.at (λ i. (c.type_inv.src i).fits) _
    c.term_part-key.ensures) refl refl
