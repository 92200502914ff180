-- The sum is the length of the first numbers' bytes, at most five each.
use Rattle.writer.specs.Edges.Laws.{length_more, number_short, all_numbers}
use Prim.Native.Nat.{ℕ, ◌+◌}
use lib.ListN.{length}
use mathlib.Core.List.{List}
use mathlib.Core.Path.{refl, ap, ◌∙◌}
use native.Mathlib.Omega.{arith}
use Rattle.writer.proofs.edges.numbers_len.Goals as goal

pub loop-n-init : goal.loop-n-init
loop-n-init c =
    (refl, omega arith)

pub overflow_add-len : goal.overflow_add-len
overflow_add-len c =
    omega (
      arith,
      c.number_len-len.ensures,
      number_short _ (c.type_inv.numbers c.loop-n.n-index).fits,
      c.loop-n.invariant.1,
      c.loop-n-test.true,
      c.requires,
    )

pub loop-n-preserved : goal.loop-n-preserved
loop-n-preserved c = (
  ap (λ (n : ℕ). c.loop-n.len + n) c.number_len-len.ensures ∙ length_more c.args.numbers.now c.loop-n.n-index c.loop-n.len
      c.loop-n-test.true c.loop-n.invariant.0,
  omega (arith, c.number_len-len.ensures, number_short _ (c.type_inv.numbers c.loop-n.n-index).fits, c.loop-n.invariant.1),
)

pub returns : goal.returns
returns c = (
  c.loop-n.invariant.0 ∙ ap (λ (ns : List ℕ). length ns) (all_numbers c.args.numbers.now c.loop-n.n-index (omega (arith, c.loop-n-test.false, c.loop-n.auto.n-index-end))),
  omega (arith, c.loop-n.invariant.1, c.loop-n.auto.n-index-end),
)
