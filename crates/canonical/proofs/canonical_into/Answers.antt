-- The output's part from o on is lent as a whole slice; what is made at its start lies at o of the output.
use native.Mathlib.Omega.{arith}
use Rattle.canonical.proofs.Lent.{part_ready, part_ends, part_done}
use Rattle.canonical.proofs.canonical_into.Goals as goal

pub make-n-requires : goal.make-n-requires
make-n-requires c =
    part_ready _ _ _ _ _ _ c.args.out.now _ c.requires

pub overflow_add-result : goal.overflow_add-result
overflow_add-result c =
    let q = part_ends _ _ _ _ _ _ c.args.out.now _ _ _ _ c.make-n.ensures c.requires in omega (arith, q.0, q.1)

pub returns : goal.returns
returns c =
    part_done _ _ _ _ _ _ c.args.out.now _ _ _ _ c.make-n.ensures
