-- Together, the formula left falling: judge has a case for each tag; walk's invariant is that `truth` folds the matches among the entries before e.
use Rattle.judge.specs.Judging.Returns.{body_ends}
use Rattle.judge.specs.Judging.Returns.{fits_inside, says_false, says_atom, fits_left, fits_right, says_pair, fits_body, says_quant}
use Rattle.judge.specs.Judging.Walking.{walks, walking_begins, walking_skip, walking_ends, walking_miss, walking_match}
use Rattle.judge.specs.Tables.{total}
use native.Mathlib.Omega.{arith}
use Prim.Native.Nat.{◌<◌}
use mathlib.Core.Path.{refl, sym, ◌∙◌}
use Rattle.judge.proofs.judging.+judge_walk.Goals as goal
use Rattle.judge.proofs.judging.+judge_walk.Goals.{walk-then-tables-e+in-Some, walk-then-tables-e+in_default, walk-else-tables-e}

pub judge-returns-then-tag-eq-FALSE : goal.judge-returns-then-tag-eq-FALSE
judge-returns-then-tag-eq-FALSE t c =
    says_false c.args.tables.starts.now c.args.tables.symbols.now c.args.tables.classes.now c.args.tables.base c.args.file.now c.args.arities.now
    c.args.bound.now.count c.args.bound.now.values c.read-tag.ensures c.if-tag-eq-FALSE.true

pub judge-atom-a-requires : goal.judge-atom-a-requires
judge-atom-a-requires t c =
    c.requires.1

pub judge-returns-then-tag-lt-AND : goal.judge-returns-then-tag-lt-AND
judge-returns-then-tag-lt-AND t c =
    says_atom c.args.tables.starts.now c.args.tables.symbols.now c.args.tables.classes.now c.args.tables.base c.args.file.now c.args.arities.now
    c.args.bound.now.count c.args.bound.now.values c.read-tag.ensures c.if-tag-eq-FALSE.false c.if-tag-lt-AND.true c.atom-a.ensures
    c.sign-truth.ensures

pub judge-judge-x-requires : goal.judge-judge-x-requires
judge-judge-x-requires t c =
    let p = fits_inside c.args.tables.starts.now c.args.tables.symbols.now c.args.tables.classes.now c.args.tables.base c.args.file.now
    c.args.arities.now c.args.bound.now.count c.args.bound.now.values c.read-tag.ensures c.requires.0 in (
      omega (arith, c.requires-raw.0, p.0, p.1),
      (
        fits_left c.args.tables.starts.now c.args.tables.symbols.now c.args.tables.classes.now c.args.tables.base
            c.args.file.now c.args.arities.now c.args.bound.now.count c.args.bound.now.values c.read-tag.ensures
            c.if-tag-lt-AND.false c.if-tag-lt-EXISTS.true c.requires.0,
        c.requires.1,
      ),
    )

pub judge-judge-y-requires : goal.judge-judge-y-requires
judge-judge-y-requires t c =
    let p = fits_inside c.args.tables.starts.now c.args.tables.symbols.now c.args.tables.classes.now c.args.tables.base c.args.file.now
    c.args.arities.now c.args.bound.now.count c.args.bound.now.values c.read-tag.ensures c.requires.0 in
    let w = fits_right c.args.tables.starts.now c.args.tables.symbols.now c.args.tables.classes.now c.args.tables.base c.args.file.now
    c.args.arities.now c.args.bound.now.count c.args.bound.now.values c.read-tag.ensures c.if-tag-lt-AND.false c.if-tag-lt-EXISTS.true
    c.judge-x.ensures c.requires.0 in
    (omega (arith, c.requires-raw.0, p.0, p.1, w.1), (w.0, c.requires.1))

pub judge-returns-then-tag-lt-EXISTS : goal.judge-returns-then-tag-lt-EXISTS
judge-returns-then-tag-lt-EXISTS t c =
    says_pair c.args.tables.starts.now c.args.tables.symbols.now c.args.tables.classes.now c.args.tables.base c.args.file.now c.args.arities.now
    c.args.bound.now.count c.args.bound.now.values c.read-tag.ensures c.if-tag-lt-AND.false c.if-tag-lt-EXISTS.true c.judge-x.ensures
    c.judge-y.ensures c.join-truth.ensures

pub judge-walk-requires : goal.judge-walk-requires
judge-walk-requires t c =
    let p = fits_inside c.args.tables.starts.now c.args.tables.symbols.now c.args.tables.classes.now c.args.tables.base c.args.file.now
    c.args.arities.now c.args.bound.now.count c.args.bound.now.values c.read-tag.ensures c.requires.0 in
    let w = fits_body c.args.tables.starts.now c.args.tables.symbols.now c.args.tables.classes.now c.args.tables.base c.args.file.now
    c.args.arities.now c.args.bound.now.count c.args.bound.now.values c.read-tag.ensures c.if-tag-lt-EXISTS.false
    c.read_guard-guard.ensures.0 c.requires.0 in
    (omega (arith, c.requires-raw.0, p.0, p.1, w.1), (w.0, c.requires.1, c.read_guard-guard.ensures.0.few))

pub judge-returns : goal.judge-returns
judge-returns t c =
    says_quant c.args.tables.starts.now c.args.tables.symbols.now c.args.tables.classes.now c.args.tables.base c.args.file.now c.args.arities.now
    c.args.bound.now.count c.args.bound.now.values c.read-tag.ensures c.if-tag-lt-EXISTS.false c.read_guard-guard.ensures.0
    c.read_guard-guard.ensures.1 c.walk.ensures

pub walk-loop-e-init : goal.walk-loop-e-init
walk-loop-e-init t c =
    walking_begins c.requires.1 c.args.tables.base c.args.file.now c.args.arities.now c.args.guard.now c.args.bound.now.count
    c.args.bound.now.values

pub walk-loop-e-preserved : goal.walk-loop-e-preserved
walk-loop-e-preserved t c =
    let l : c.loop-e.e < total c.args.tables.starts.now = omega (arith, c.total-total.ensures) in
    elim c.if-tables-e.branch [
      | walk-then-tables-e+in-Some w ↦ walks (sym (w.truth-is ∙ w.join-truth.ensures)) (sym w.next-is) (sym w.node-is) (walking_match c.requires.1 c.args.tables.base c.args.file.now c.args.arities.now c.args.guard.now c.args.bound.now.count
          c.args.bound.now.values l
          w.match_guard.result w.node_of-node.ensures (w.match_guard.ensures c.args.tables.symbols.now w.if-tables-e.true) c.loop-e.invariant
          w.in-Some.is refl w.judge-r.ensures)
      | walk-then-tables-e+in_default w ↦ walks (sym w.truth-is) (sym w.next-is) (sym w.node-is) (walking_miss c.requires.1 c.args.tables.base c.args.file.now c.args.arities.now c.args.guard.now c.args.bound.now.count
          c.args.bound.now.values l
          w.match_guard.result w.node_of-node.ensures (w.match_guard.ensures c.args.tables.symbols.now w.if-tables-e.true) c.loop-e.invariant
          w.in_default.is)
      | walk-else-tables-e w ↦ walks (sym w.truth-is) (sym w.next-is) (sym w.node-is) (walking_skip c.requires.1 c.args.tables.base c.args.file.now c.args.arities.now c.args.guard.now c.args.bound.now.count
          c.args.bound.now.values l
          w.if-tables-e.false c.loop-e.invariant)
    ]

pub walk-returns-in-Some-next : goal.walk-returns-in-Some-next
walk-returns-in-Some-next t c =
    walking_ends c.requires.1 c.args.tables.base c.args.file.now c.args.arities.now c.args.guard.now c.args.bound.now.count
    c.args.bound.now.values (λ z. omega (arith, c.total-total.ensures)) c.loop-e.invariant
    (c.loop-e.invariant.ended c.in-Some-next.k c.in-Some-next.is)

pub walk-returns-in-None : goal.walk-returns-in-None
walk-returns-in-None t c =
    walking_ends c.requires.1 c.args.tables.base c.args.file.now c.args.arities.now c.args.guard.now c.args.bound.now.count
    c.args.bound.now.values (λ z. omega (arith, c.total-total.ensures)) c.loop-e.invariant
    (body_ends c.skip-behind.ensures)
