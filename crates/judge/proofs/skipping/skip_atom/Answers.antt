-- The ranges of the tag tell which two parts, or which fact, are passed over.
use Rattle.judge.specs.Judging.Atoms.{ends_equal, ends_times, ends_action}
use Rattle.judge.proofs.skipping.skip_atom.Goals as goal

pub returns-then-tag-lt-BEFORE : goal.returns-then-tag-lt-BEFORE
returns-then-tag-lt-BEFORE c =
    ends_equal c.args.file.now c.args.arities.now c.if-tag-lt-BEFORE.true c.term-t.ensures c.term.ensures

pub returns-then-tag-lt-ACTION : goal.returns-then-tag-lt-ACTION
returns-then-tag-lt-ACTION c =
    ends_times c.args.file.now c.args.arities.now c.if-tag-lt-BEFORE.false c.if-tag-lt-ACTION.true c.read-i.ensures c.read.ensures

pub returns : goal.returns
returns c =
    ends_action c.args.file.now c.args.arities.now c.if-tag-lt-ACTION.false c.read_fact.ensures
