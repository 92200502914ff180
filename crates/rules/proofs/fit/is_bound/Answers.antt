-- The three parts of `bound`, each asked only where those before it do not decide.
use native.Mathlib.Omega.{arith}
use Prim.Native.Nat.{◌+◌}
use Rattle.protocol.specs.Protocol.Walks.{asks}
use Rattle.lists.specs.Lists.{any_by}
use Rattle.rules.specs.Fit.Laws.{asked_of, bound_public, bound_above, bound_below}
use Rattle.rules.proofs.fit.is_bound.Goals as goal

pub returns-then-sort_of-eq-PUBLIC_SORT : goal.returns-then-sort_of-eq-PUBLIC_SORT
returns-then-sort_of-eq-PUBLIC_SORT c =
    bound_public c.args.text.now.file.now c.args.text.now.arities.now c.args.text.now.ars.now c.args.x.at c.args.v _ c.sort_of.ensures
    c.if-sort_of-eq-PUBLIC_SORT.true

pub returns-then-list_asks : goal.returns-then-list_asks
returns-then-list_asks c =
    bound_above c.args.text.now.file.now c.args.text.now.arities.now c.args.text.now.ars.now c.args.x.at c.args.v _ c.sort_of.ensures _
    (asked_of c.args.text.now.file.now c.args.text.now.arities.now c.args.text.now.ars.now c.args.x.at 0 _ (any_by (asks 0 c.args.v (c.args.v + 1)))
    (omega arith) c.requires.1.premises_at c.list_asks.ensures) c.if-list_asks.true

pub returns : goal.returns
returns c =
    bound_below c.args.text.now.file.now c.args.text.now.arities.now c.args.text.now.ars.now c.args.x.at c.args.v _ c.sort_of.ensures _
    (asked_of c.args.text.now.file.now c.args.text.now.arities.now c.args.text.now.ars.now c.args.x.at 0 _ (any_by (asks 0 c.args.v (c.args.v + 1)))
    (omega arith) c.requires.1.premises_at c.list_asks.ensures) _ _
    (asked_of c.args.text.now.file.now c.args.text.now.arities.now c.args.text.now.ars.now c.args.x.at 2 _ (any_by (asks 0 c.args.v (c.args.v + 1)))
    (omega arith) c.requires.1.conclusions_at c.list_asks-below.ensures)
    (asked_of c.args.text.now.file.now c.args.text.now.arities.now c.args.text.now.ars.now c.args.x.at 1 _ (any_by (asks 0 c.args.v (c.args.v + 1)))
    (omega arith) c.requires.1.actions_at c.list_asks-beside.ensures) c.if-sort_of-eq-PUBLIC_SORT.false c.if-list_asks.false
