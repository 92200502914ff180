-- A short work area is refused and nothing touched; else canonical_inside answers over a part of the facts' region, and clearing leaves zeros throughout.
use Rattle.graph.specs.Uses.{count_table}
use lib.Seq.{length-take-le}
use native.Mathlib.Omega.{arith}
use lib.ListN.{length, replicate, drop, length-drop}
use Prim.Native.Nat.{ℕ}
use mathlib.Core.Path.{ap, sym, ◌∙◌}
use Rattle.checker.specs.Canonical.Inside.{work_cleared}
use Rattle.checker.specs.Canonical.Cases.{work_short, output_kept, work_kept}
use borrow.Author.Rules.{rules}
use Rattle.checker.specs.Answer.{written_refused}
use Rattle.checker.proofs.canonical_form.Goals as goal

pub returns-then-work-lt-WORK_NEED : goal.returns-then-work-lt-WORK_NEED
returns-then-work-lt-WORK_NEED c =
    let e = work_short c.args.protocol.now c.args.term.now (length c.args.output.now) (length c.args.work.now)
    c.if-work-lt-WORK_NEED.true in
    record {
      answer = (written_refused c.refuse.ensures) ∙ sym e;
      wrote = output_kept c.args.protocol.now c.args.term.now c.args.output.now (length c.args.work.now) 1 0 e;
      cleared = work_kept c.args.protocol.now c.args.term.now c.args.work.now (length c.args.output.now) c.if-work-lt-WORK_NEED.true;
    }

pub canonical_inside-r-requires : goal.canonical_inside-r-requires
canonical_inside-r-requires c =
    length-take-le _ (drop count_table c.args.work.now) (omega (arith, c.if-work-lt-WORK_NEED.false, length-drop count_table c.args.work.now))

pub returns : goal.returns
returns c =
    let i = c.canonical_inside-r.ensures (length c.args.work.now) c.if-work-lt-WORK_NEED.false in
    record {
      answer = i.answer;
      wrote = i.left;
      cleared = c.clear.ensures ∙ ap (λ (n : ℕ). replicate n 0) (search rules) ∙ work_cleared
          c.args.protocol.now c.args.term.now
          (length c.args.output.now) c.args.work.now c.if-work-lt-WORK_NEED.false;
    }
