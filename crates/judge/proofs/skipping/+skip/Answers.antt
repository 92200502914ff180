-- By recursion over the file that is left: each case of the formula's tag ends where its parts do.
use Rattle.judge.specs.Judging.Returns.{formed_inside, past_false, past_atom, formed_left, formed_right, past_pair, formed_body, past_quant}
use native.Mathlib.Omega.{arith}
use Rattle.judge.proofs.skipping.+skip.Goals as goal

pub returns-then-tag-eq-FALSE : goal.returns-then-tag-eq-FALSE
returns-then-tag-eq-FALSE t c =
    past_false c.args.file.now c.args.arities.now c.read-tag.ensures c.if-tag-eq-FALSE.true

pub returns-then-tag-lt-AND : goal.returns-then-tag-lt-AND
returns-then-tag-lt-AND t c =
    past_atom c.args.file.now c.args.arities.now c.read-tag.ensures c.if-tag-eq-FALSE.false c.if-tag-lt-AND.true c.skip_atom.ensures

pub skip-m-requires : goal.skip-m-requires
skip-m-requires t c =
    let w = formed_left c.args.file.now c.args.arities.now c.read-tag.ensures c.if-tag-lt-AND.false c.if-tag-lt-EXISTS.true c.requires in
    let p = formed_inside c.args.file.now c.args.arities.now c.read-tag.ensures c.requires in
    (omega (arith, c.requires-raw.0, p.0, p.1), w)

pub skip-requires : goal.skip-requires
skip-requires t c =
    let w = formed_right c.args.file.now c.args.arities.now c.read-tag.ensures c.if-tag-lt-AND.false c.if-tag-lt-EXISTS.true c.skip-m.ensures
    c.requires in
    let p = formed_inside c.args.file.now c.args.arities.now c.read-tag.ensures c.requires in
    (omega (arith, c.requires-raw.0, p.0, p.1, w.1), w.0)

pub returns-then-tag-lt-EXISTS : goal.returns-then-tag-lt-EXISTS
returns-then-tag-lt-EXISTS t c =
    past_pair c.args.file.now c.args.arities.now c.read-tag.ensures c.if-tag-lt-AND.false c.if-tag-lt-EXISTS.true c.skip-m.ensures
    c.skip.ensures

pub skip-requires-2 : goal.skip-requires-2
skip-requires-2 t c =
    let w = formed_body c.args.file.now c.args.arities.now c.read-tag.ensures c.if-tag-lt-EXISTS.false c.read_guard-g.ensures.0
    c.requires in
    let p = formed_inside c.args.file.now c.args.arities.now c.read-tag.ensures c.requires in
    (omega (arith, c.requires-raw.0, p.0, p.1, w.1), w.0)

pub returns : goal.returns
returns t c =
    past_quant c.args.file.now c.args.arities.now c.read-tag.ensures c.if-tag-lt-EXISTS.false c.read_guard-g.ensures.0
    c.skip-2.ensures
