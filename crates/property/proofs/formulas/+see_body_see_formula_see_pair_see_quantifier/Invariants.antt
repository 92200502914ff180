-- Together, by recursion over the levels left: each clause of `formula_at` and `fit` is the answer of the call for that tag.
use Prim.Native.Nat.{◌+◌, ◌*◌}
use Rattle.property.proofs.formulas.+see_body_see_formula_see_pair_see_quantifier.Given as goal

abbrev pub decreases-see_body : goal.decreases-see_body
decreases-see_body l =
    3 * l.levels + 2

abbrev pub decreases-see_formula : goal.decreases-see_formula
decreases-see_formula l =
    3 * l.levels

abbrev pub decreases-see_pair : goal.decreases-see_pair
decreases-see_pair l =
    3 * l.levels + 1

abbrev pub decreases-see_quantifier : goal.decreases-see_quantifier
decreases-see_quantifier l =
    3 * l.levels + 1
