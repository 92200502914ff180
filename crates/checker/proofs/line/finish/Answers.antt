-- One byte, the line feed.
use Rattle.checker.specs.Line.Laws.{put_one}
use Rattle.checker.specs.Line.{line_feed}
use native.Mathlib.Omega.{arith}
use Rattle.checker.proofs.line.finish.Goals as goal

pub returns : goal.returns
returns c =
    put_one c.args.out.now c.args.at line_feed (omega (arith, c.requires))
