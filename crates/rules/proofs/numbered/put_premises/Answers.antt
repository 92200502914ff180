-- Count, k zeros for the sorts, count and the K of each variable: the writes lie end to end.
use Rattle.rules.specs.Numbered.Writing.{with_sorts, sorts_length, premises_put}
use lib.ListN.{length-set}
use Prim.Native.Nat.{◌+◌}
use native.Mathlib.Omega.{arith}
use Rattle.rules.proofs.numbered.put_premises.Goals as goal

pub slice_bounds-clear-end : goal.slice_bounds-clear-end
slice_bounds-clear-end c =
    simp length-set (omega arith)

pub bounds-out-end : goal.bounds-out-end
bounds-out-end c =
    omega (arith, sorts_length c.args.out.now c.args.k c.clear.new.out (omega arith) c.clear.ensures)

pub put_variables-requires : goal.put_variables-requires
put_variables-requires c =
    simp length-set (omega (arith, sorts_length c.args.out.now c.args.k c.clear.new.out (omega arith) c.clear.ensures))

pub shape_of-out : goal.shape_of-out
shape_of-out c =
    omega (
      arith,
      length-set (with_sorts c.args.out.now c.args.k c.clear.new.out) (1 + c.args.k)
          c.args.k,
      sorts_length c.args.out.now c.args.k c.clear.new.out (omega arith) c.clear.ensures,
    )

pub returns : goal.returns
returns c =
    premises_put c.args.out.now c.args.k c.clear.new.out (omega arith) c.clear.ensures _ _ c.put_variables.ensures
