-- A short work area is refused and nothing touched; else check_files answers in it, and clearing leaves zeros throughout.
use Rattle.checker.specs.Check.Cases.{work_short, work_kept, work_cleared}
use mathlib.Core.Path.{ap, sym, ◌∙◌}
use Prim.Native.Nat.{ℕ}
use lib.ListN.{length, replicate}
use native.Mathlib.Omega.{arith}
use borrow.Author.Rules.{rules}
use Rattle.checker.specs.Check.{ruled_refused}
use Rattle.checker.proofs.check.Goals as goal

pub returns-then-work-lt-WORK_NEED : goal.returns-then-work-lt-WORK_NEED
returns-then-work-lt-WORK_NEED c =
    record {
      answer = (ruled_refused c.refuse.ensures) ∙ sym (work_short c.args.protocol.now c.args.property.now c.args.graph.now (length c.args.work.now)
          c.if-work-lt-WORK_NEED.true);
      cleared = work_kept c.args.protocol.now c.args.property.now c.args.graph.now c.args.work.now c.if-work-lt-WORK_NEED.true;
    }

pub check_files-r-requires : goal.check_files-r-requires
check_files-r-requires c =
    omega (arith, c.if-work-lt-WORK_NEED.false)

pub returns : goal.returns
returns c =
    record {
      answer = c.check_files-r.ensures (length c.args.work.now) c.if-work-lt-WORK_NEED.false;
      cleared = c.clear.ensures ∙ ap (λ (n : ℕ). replicate n 0)
          (search rules) ∙ work_cleared c.args.protocol.now c.args.property.now
          c.args.graph.now c.args.work.now c.if-work-lt-WORK_NEED.false;
    }
