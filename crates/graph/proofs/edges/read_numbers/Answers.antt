-- The invariant is that j numbers are read up to i and stand in the table; each turn adds one.
use borrow.Author.Rules.{rules}
use Rattle.number.specs.Reading.{as_read}
use native.Mathlib.Omega.{arith}
use lib.ListN.{length-set}
use mathlib.Core.Path.{ap, sym, ◌∙◌}
use Rattle.graph.specs.Table.Reading.{numbers_none, numbers_more, numbers_fault, numbers_end}
use Rattle.graph.proofs.edges.read_numbers.Goals as goal

pub loop-j-init : goal.loop-j-init
loop-j-init c =
    (search rules, numbers_none _ _ _)

pub offset_bounds-edges-j : goal.offset_bounds-edges-j
offset_bounds-edges-j c =
    omega (arith, c.loop-j.invariant.0, c.requires)

pub bounds-edges-j : goal.bounds-edges-j
bounds-edges-j c =
    omega (arith, c.loop-j.invariant.0, c.requires)

pub loop-j-preserved : goal.loop-j-preserved
loop-j-preserved c = (
  simp length-set c.loop-j.invariant.0,
  numbers_more _ _ _ _ _ c.loop-j.invariant.1 _ _ (omega (arith, c.loop-j.invariant.0, c.requires))
      (sym c.read_number.ensures ∙ ap as_read c.in_ok-v.was),
)

pub returns-in_err-v : goal.returns-in_err-v
returns-in_err-v c =
    rw c.from_residual.ensures
    (numbers_fault _ _ _ _ _ c.loop-j.invariant.1 _ c.loop-j-test.true (sym c.read_number.ensures ∙ ap as_read c.in_err-v.was))

pub returns : goal.returns
returns c =
    numbers_end _ _ _ _ _ c.loop-j.invariant.1 _ (omega (arith, c.loop-j-test.false))
