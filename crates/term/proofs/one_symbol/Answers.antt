-- The two kinds of symbol, and none: what symbol_at told, and for a leaf what hit told of it.
use Rattle.term.specs.Walk.Laws.{step_of}
use Rattle.std.proofs.Common.{Some}
use mathlib.Core.Path.{ap, sym, ◌∙◌}
use mathlib.Core.Bool.{Bool}
use Rattle.term.proofs.one_symbol.Goals as goal

pub returns-in-Leaf : goal.returns-in-Leaf
returns-in-Leaf c =
    ap (λ (b : Bool). Some (0, b, c.in-Leaf.e)) c.hit.ensures ∙ ap (step_of c.args.w.kind c.args.w.lo c.args.w.hi)
    (sym (c.in_ok-y.was ∙ ap Some c.in-Leaf.is) ∙ c.symbol_at.ensures)

pub returns-in-Op : goal.returns-in-Op
returns-in-Op c =
    ap (step_of c.args.w.kind c.args.w.lo c.args.w.hi) (sym (c.in_ok-y.was ∙ ap Some c.in-Op.is) ∙ c.symbol_at.ensures)

pub returns-in_err-y : goal.returns-in_err-y
returns-in_err-y c =
    rw c.from_residual.ensures
    (ap (step_of c.args.w.kind c.args.w.lo c.args.w.hi) (sym c.in_err-y.was ∙ c.symbol_at.ensures))
