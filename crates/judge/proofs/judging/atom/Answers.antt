-- The ranges of the tag are those of `atom_at`; each call says that atom's truth.
use Rattle.judge.specs.Judging.Atoms.{as_equal, as_times, as_action, said_action}
use Rattle.judge.specs.Judging.{traced}
use Rattle.judge.proofs.judging.atom.Goals as goal

pub returns-then-tag-lt-BEFORE : goal.returns-then-tag-lt-BEFORE
returns-then-tag-lt-BEFORE c =
    λ s a. c.equal.ensures c.args.arities.now (traced c.args.tables.starts.now c.args.tables.symbols.now c.args.tables.classes.now) s
    (as_equal c.args.file.now c.args.arities.now c.args.tag.value c.args.tag.next c.args.bound.now.count c.if-tag-lt-BEFORE.true
    s a)

pub returns-then-tag-lt-ACTION : goal.returns-then-tag-lt-ACTION
returns-then-tag-lt-ACTION c =
    λ s a. c.times.ensures c.args.arities.now (traced c.args.tables.starts.now c.args.tables.symbols.now c.args.tables.classes.now) c.args.tables.base
    s (as_times c.args.file.now c.args.arities.now c.args.tag.value c.args.tag.next c.args.bound.now.count c.if-tag-lt-BEFORE.false
    c.if-tag-lt-ACTION.true s a)

pub returns : goal.returns
returns c =
    λ s a. said_action c.args.file.now c.args.arities.now c.args.tables.starts.now c.args.tables.symbols.now c.args.tables.classes.now
    c.args.tables.base c.args.bound.now.count c.args.bound.now.values c.args.tag.next c.read_fact-fact.ensures c.occurs-found.ensures s
    (as_action c.args.file.now c.args.arities.now c.args.tag.value c.args.tag.next c.args.bound.now.count
    c.if-tag-lt-ACTION.false s a)
