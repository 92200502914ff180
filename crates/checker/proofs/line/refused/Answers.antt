-- Word, two numbers and line feed lie end to end, within the line's room.
use Rattle.checker.specs.Line.Laws.{put_word, put_then}
use Rattle.checker.specs.Line.{refused_word}
use native.Mathlib.Omega.{arith}
use Rattle.checker.proofs.line.refused.Goals as goal

pub returns : goal.returns
returns c =
    let w = c.copy_into-first in
    let x = c.number-second in
    let y = c.number-end in
    let e = c.finish in
    let first = put_word c.args.out.now refused_word w.ensures.next w.ensures.wrote in record {
      wrote = put_then (omega (arith, c.requires, w.ensures.next)) first
          (put_then (omega (arith, c.requires, w.ensures.next, w.auto.out, x.ensures.fits)) x.ensures.wrote
          (put_then (omega (arith, c.requires, w.ensures.next, w.auto.out, x.ensures.fits, x.auto.out, y.ensures.fits)) y.ensures.wrote
          e.ensures));
      fits = omega (arith, w.ensures.next, x.ensures.fits, y.ensures.fits, e.ensures.ends);
    }
