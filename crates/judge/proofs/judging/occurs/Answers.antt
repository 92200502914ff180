-- The invariant is that the fact has not occurred before e; entries of another symbol cannot be the fact.
use Rattle.judge.specs.Judging.Walking.{occurring_begins, occurring_skip, occurring_next, occurring_hit, occurring_ends}
use Rattle.judge.specs.Judging.Walking.{Occurring}
use Rattle.judge.specs.Tables.{total}
use native.Mathlib.Omega.{arith}
use Prim.Native.Nat.{ℕ, ◌+◌, ◌<◌}
use mathlib.Core.Path.{sym, subst}
use Rattle.judge.proofs.judging.occurs.Goals as goal
use Rattle.judge.proofs.judging.occurs.Goals.{then-tables-e+else-time-node, else-tables-e}

pub loop-e-init : goal.loop-e-init
loop-e-init c =
    occurring_begins c.requires.0 c.args.tables.base c.args.fact.now c.args.bound.now.values

pub returns : goal.returns
returns c =
    occurring_ends c.requires.0 c.args.tables.base c.args.fact.now c.args.bound.now.values (λ z. omega (arith, c.total-count.ensures)) c.loop-e.invariant

pub returns-then-time-node : goal.returns-then-time-node
returns-then-time-node c =
    occurring_hit c.requires.0 c.args.tables.base c.args.fact.now c.args.bound.now.values (omega (arith, c.total-count.ensures)) c.if-tables-e.true
    c.loop-e.invariant c.node_of-node.ensures c.slot-time.ensures c.agree-same.ensures c.if-time-node.true

pub loop-e-preserved : goal.loop-e-preserved
loop-e-preserved c =
    let l : c.loop-e.e < total c.args.tables.starts.now = omega (arith, c.total-count.ensures) in
    elim c.if-tables-e.branch [
      | then-tables-e+else-time-node w ↦ subst (λ (y : ℕ). Occurring c.args.tables.starts.now c.args.tables.symbols.now c.args.tables.classes.now c.args.tables.base
          c.args.fact.now c.args.bound.now.values y (c.loop-e.e + 1)) (sym w.node-is) (occurring_next c.requires.0 c.args.tables.base c.args.fact.now c.args.bound.now.values l
          w.if-tables-e.true c.loop-e.invariant w.node_of-node.ensures c.slot-time.ensures w.agree-same.ensures w.if-time-node.false)
      | else-tables-e w ↦ subst (λ (y : ℕ). Occurring c.args.tables.starts.now c.args.tables.symbols.now c.args.tables.classes.now c.args.tables.base
          c.args.fact.now c.args.bound.now.values y (c.loop-e.e + 1)) (sym w.node-is) (occurring_skip c.requires.0 c.args.tables.base c.args.fact.now c.args.bound.now.values l
          w.if-tables-e.false c.loop-e.invariant)
    ]
