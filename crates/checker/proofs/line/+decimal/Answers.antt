-- By recursion over the number: the figures of the tenth part, then the last figure behind them.
use Rattle.checker.specs.Line.Laws.{decimal_some, last_room, put_figure, put_last}
use native.Mathlib.Omega.{arith}
use Rattle.checker.proofs.line.+decimal.Goals as goal

pub bounds-out-at : goal.bounds-out-at
bounds-out-at t c =
    omega (arith, decimal_some c.args.n, c.requires)

pub returns-then-n-lt-TEN : goal.returns-then-n-lt-TEN
returns-then-n-lt-TEN t c =
    put_figure c.args.out.now c.args.at c.args.n c.if-n-lt-TEN.true (omega (arith, decimal_some c.args.n, c.requires))

pub decimal-last-requires : goal.decimal-last-requires
decimal-last-requires t c =
    let h = c.if-n-lt-TEN.false in
    (omega (arith, c.requires-raw.0, h), omega (arith, last_room c.args.n h, c.requires))

pub bounds-out-last : goal.bounds-out-last
bounds-out-last t c =
    let h = c.if-n-lt-TEN.false in
    let d = c.decimal-last in
    omega (arith, last_room c.args.n h, c.requires, d.ensures.ends, d.auto.out)

pub overflow_add-result-2 : goal.overflow_add-result-2
overflow_add-result-2 t c =
    let h = c.if-n-lt-TEN.false in
    let d = c.decimal-last in
    omega (arith, last_room c.args.n h, c.requires, d.ensures.ends, d.auto.out)

pub returns : goal.returns
returns t c =
    let h = c.if-n-lt-TEN.false in
    let d = c.decimal-last in
    put_last c.args.out.now c.args.at c.args.n h
    (omega (arith, last_room c.args.n h, c.requires, d.ensures.ends, d.auto.out)) d.auto.out d.ensures
