-- The rule's bytes are its premises', three fixed bytes, the tag and the variables: the writes lie end to end.
use Rattle.rules.specs.Numbered.Writing.{apply_put}
use Rattle.rules.specs.Numbered.Bytes.{premise_length, applies_length}
use lib.ListN.{length-set}
use native.Mathlib.Omega.{arith}
use Rattle.rules.proofs.numbered.put_apply.Goals as goal

pub put_premises-conclusions-requires : goal.put_premises-conclusions-requires
put_premises-conclusions-requires c =
    omega (arith, applies_length c.args.t c.args.k c.requires.0 c.requires.1)

pub copy_into-tag-requires : goal.copy_into-tag-requires
copy_into-tag-requires c =
    omega (arith, c.put_premises-conclusions.ensures.ends, premise_length c.args.k, applies_length c.args.t c.args.k c.requires.0 c.requires.1)

pub bounds-out-tag : goal.bounds-out-tag
bounds-out-tag c =
    omega (arith, c.put_premises-conclusions.ensures.ends, premise_length c.args.k, applies_length c.args.t c.args.k c.requires.0 c.requires.1)

pub overflow_add-tag : goal.overflow_add-tag
overflow_add-tag c =
    omega (arith, c.put_premises-conclusions.ensures.ends, premise_length c.args.k, applies_length c.args.t c.args.k c.requires.0 c.requires.1)

pub put_variables-requires : goal.put_variables-requires
put_variables-requires c =
    simp length-set (omega (
      arith,
      c.put_premises-conclusions.ensures.ends,
      premise_length c.args.k,
      applies_length c.args.t c.args.k c.requires.0
          c.requires.1,
    ))

pub shape_of-out : goal.shape_of-out
shape_of-out c =
    omega (arith, length-set c.copy_into-tag.new.out c.copy_into-tag.result c.args.t)

pub returns : goal.returns
returns c =
    apply_put c.args.out.now c.args.t c.args.k c.requires.0 c.requires.1 c.requires.2 _ _ _ _ _ _ c.put_premises-conclusions.auto.out
    c.put_premises-conclusions.ensures c.copy_into-tag.ensures.next c.copy_into-tag.ensures.wrote c.put_variables.ensures
