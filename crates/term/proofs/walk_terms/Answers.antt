-- The invariant is that the tally so far, put to the walk of the pending terms, is the whole walk; each turn takes a symbol off, so the file bounds the turns.
use borrow.Author.Rules.{rules}
use Rattle.term.specs.Walk.Laws.{tally_begins, step_ahead, walk_turn, walk_fault, walk_done}
use Rattle.term.specs.Reader.{term}
use Rattle.number.specs.Reading.{many}
use mathlib.Core.Path.{sym, ◌∙◌}
use native.Mathlib.Omega.{arith}
use Rattle.term.proofs.walk_terms.Goals as goal

pub loop-pending-init : goal.loop-pending-init
loop-pending-init c = (
  search rules,
  search rules,
  search rules,
  tally_begins c.args.w.kind c.args.w.lo c.args.w.hi
      (many (term c.args.file.now c.args.arities.now) c.args.k c.args.at),
)

pub overflow_add-pending : goal.overflow_add-pending
overflow_add-pending c =
    let a = step_ahead c.args.w.kind c.args.w.lo c.args.w.hi c.args.file.now c.args.arities.now
    (λ i. (c.type_inv.file i).fits) _ _ _ _ (sym c.one_symbol.ensures ∙ c.in_ok-n.was) in
    omega arith

pub overflow_add-count : goal.overflow_add-count
overflow_add-count c =
    let a = step_ahead c.args.w.kind c.args.w.lo c.args.w.hi c.args.file.now c.args.arities.now
    (λ i. (c.type_inv.file i).fits) _ _ _ _ (sym c.one_symbol.ensures ∙ c.in_ok-n.was) in
    omega arith

pub loop-pending-smaller : goal.loop-pending-smaller
loop-pending-smaller c =
    let a = step_ahead c.args.w.kind c.args.w.lo c.args.w.hi c.args.file.now c.args.arities.now
    (λ i. (c.type_inv.file i).fits) _ _ _ _ (sym c.one_symbol.ensures ∙ c.in_ok-n.was) in
    omega arith

pub loop-pending-preserved : goal.loop-pending-preserved
loop-pending-preserved c =
    let a = step_ahead c.args.w.kind c.args.w.lo c.args.w.hi c.args.file.now c.args.arities.now
    (λ i. (c.type_inv.file i).fits) _ _ _ _ (sym c.one_symbol.ensures ∙ c.in_ok-n.was) in (
      omega arith,
      omega arith,
      omega arith,
      walk_turn c.args.w.kind c.args.w.lo c.args.w.hi c.args.file.now
          c.args.arities.now (λ i. (c.type_inv.file i).fits) _ _ _ _ _ _ _ c.loop-pending-test.true
          (sym c.one_symbol.ensures ∙ c.in_ok-n.was) ∙ c.loop-pending.invariant.3,
    )

pub returns-in_err-n : goal.returns-in_err-n
returns-in_err-n c =
    rw c.from_residual.ensures
    (sym (walk_fault c.args.w.kind c.args.w.lo c.args.w.hi c.args.file.now c.args.arities.now
    (λ i. (c.type_inv.file i).fits) _
    _ _ _ c.loop-pending-test.true (sym c.one_symbol.ensures ∙ c.in_err-n.was)) ∙ c.loop-pending.invariant.3)

pub returns : goal.returns
returns c =
    sym (walk_done c.args.w.kind c.args.w.lo c.args.w.hi c.args.file.now c.args.arities.now (λ i. (c.type_inv.file i).fits)
    _
    _ _ _ c.loop-pending-test.false) ∙ c.loop-pending.invariant.3
