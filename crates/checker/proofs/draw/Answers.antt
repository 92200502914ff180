-- A short work area is refused first and left; otherwise what is inside answers over the facts' region, and the area is cleared.
use native.Mathlib.Omega.{arith}
use mathlib.Core.Path.{ap, sym, ◌∙◌}
use Prim.Native.Nat.{ℕ}
use lib.ListN.{length, replicate}
use Rattle.graph.specs.Area.{facts_room}
use Rattle.checker.specs.Draw.Cases.{work_short, output_kept, work_kept}
use Rattle.checker.specs.Draw.Cleared.{work_cleared}
use borrow.Author.Rules.{rules}
use Rattle.checker.specs.Answer.{written_refused}
use Rattle.checker.proofs.draw.Goals as goal

pub returns-then-work-lt-WORK_NEED : goal.returns-then-work-lt-WORK_NEED
returns-then-work-lt-WORK_NEED c =
    let e = work_short c.args.protocol.now c.args.steps.now (length c.args.output.now) (length c.args.work.now)
    c.if-work-lt-WORK_NEED.true in
    record {
      answer = (written_refused c.refuse.ensures) ∙ sym e;
      wrote = output_kept c.args.protocol.now c.args.steps.now c.args.output.now
          (length c.args.work.now) 1 0 e;
      cleared = work_kept c.args.protocol.now c.args.steps.now c.args.work.now
          (length c.args.output.now) c.if-work-lt-WORK_NEED.true;
    }

pub draw_files-r-requires : goal.draw_files-r-requires
draw_files-r-requires c =
    facts_room c.args.work.now (omega (arith, c.if-work-lt-WORK_NEED.false))

pub returns : goal.returns
returns c =
    let i = c.draw_files-r.ensures (length c.args.work.now) c.if-work-lt-WORK_NEED.false in
    record {
      answer = i.answer;
      wrote = i.left;
      cleared = c.clear.ensures ∙ ap (λ (n : ℕ). replicate n 0) (search rules) ∙
          work_cleared c.args.protocol.now c.args.steps.now (length c.args.output.now) c.args.work.now c.if-work-lt-WORK_NEED.false;
    }
