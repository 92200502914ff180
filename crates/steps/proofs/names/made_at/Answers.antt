-- A node of rule 0 has one value, a fresh name at its place; a node of another rule makes none.
use Rattle.steps.specs.Names.Code.{zero_name}
use Rattle.prepared.specs.Prepared.Laws.{slots_length}
use mathlib.Core.Path.{sym}
use Rattle.steps.proofs.names.made_at.Goals as goal

pub slice_bounds-fresh_at-end : goal.slice_bounds-fresh_at-end
slice_bounds-fresh_at-end c =
    sym (slots_length c.args.p.now c.requires.2.prepared.body.long)

pub returns-then-nodes-row-eq-MAKES_FRESH : goal.returns-then-nodes-row-eq-MAKES_FRESH
returns-then-nodes-row-eq-MAKES_FRESH c =
    λ P x h. zero_name h (λ k. (c.type_inv.s k).fits) c.if-nodes-row-eq-MAKES_FRESH.true c.fresh_at.result c.fresh_at.ensures
