-- Word, three numbers and line feed lie end to end, within the line's room.
use Rattle.checker.specs.Line.Laws.{put_word, put_then}
use native.Mathlib.Omega.{arith}
use Rattle.checker.proofs.line.counted.Goals as goal

pub returns : goal.returns
returns c =
    let w = c.copy_into-first in
    let x = c.number-second in
    let y = c.number-third in
    let z = c.number-end in
    let e = c.finish in
    let first = put_word c.args.out.now c.args.word.now w.ensures.next w.ensures.wrote in record {
      wrote = put_then (omega (arith, c.requires.0, c.requires.1, w.ensures.next)) first
          (put_then (omega (arith, c.requires.0, c.requires.1, w.ensures.next, w.auto.out, x.ensures.fits)) x.ensures.wrote
          (put_then (omega (arith, c.requires.0, c.requires.1, w.ensures.next, w.auto.out, x.ensures.fits, x.auto.out, y.ensures.fits)) y.ensures.wrote
          (put_then (omega (arith, c.requires.0, c.requires.1, w.ensures.next, w.auto.out, x.ensures.fits, x.auto.out, y.ensures.fits, y.auto.out, z.ensures.fits))
          z.ensures.wrote
          e.ensures)));
      fits = omega (arith, c.requires.0, w.ensures.next, x.ensures.fits, y.ensures.fits, z.ensures.fits, e.ensures.ends);
    }
