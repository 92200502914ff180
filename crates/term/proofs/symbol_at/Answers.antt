-- A tag below the first function's is a leaf's, any other a function's: the three clauses of `symbol_at`.
use mathlib.Core.Path.{ap, sym, ◌∙◌}
use Rattle.number.specs.Reading.{as_read}
use Rattle.term.specs.Reader.Laws.{symbol_leaf, symbol_op, symbol_none}
use Rattle.term.proofs.symbol_at.Goals as goal

pub returns-then-tag-lt-FIRST_FUNCTION : goal.returns-then-tag-lt-FIRST_FUNCTION
returns-then-tag-lt-FIRST_FUNCTION c =
    c.leaf_at.ensures ∙ sym (symbol_leaf c.args.file.now c.args.arities.now c.args.at
    (sym c.read_number.ensures ∙ ap as_read c.in_ok-t.was) c.if-tag-lt-FIRST_FUNCTION.true)

pub returns : goal.returns
returns c =
    c.op_at.ensures ∙ sym (symbol_op c.args.file.now c.args.arities.now c.args.at
    (sym c.read_number.ensures ∙ ap as_read c.in_ok-t.was) c.if-tag-lt-FIRST_FUNCTION.false)

pub returns-in_err-t : goal.returns-in_err-t
returns-in_err-t c =
    rw c.from_residual.ensures
    (sym (symbol_none c.args.file.now c.args.arities.now c.args.at
    (sym c.read_number.ensures ∙ ap as_read c.in_err-t.was)))
