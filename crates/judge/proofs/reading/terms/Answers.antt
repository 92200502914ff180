-- The invariant is that the first j codes are those of the terms read up to i; each turn adds one.
use Rattle.judge.specs.Reading.Parts.{code_fits}
use Rattle.judge.specs.Reading.Lists.{coding_begins, coding_next, coding_ends}
use Rattle.std.proofs.Common.{ℕ, arith}
use Rattle.std.proofs.Math.ListN.{length-replicate}
use Rattle.judge.proofs.reading.terms.Goals as goal

pub loop-j-init : goal.loop-j-init
loop-j-init c =
    coding_begins c.args.file.now c.args.at c.args.k _ (length-replicate {A = ℕ} 8 0)

pub overflow_cast-codes : goal.overflow_cast-codes
overflow_cast-codes c =
    omega (arith, code_fits c.term-t.ensures)

pub loop-j-preserved : goal.loop-j-preserved
loop-j-preserved c =
    coding_next c.args.file.now (omega arith) c.requires c.loop-j.invariant c.term-t.ensures

pub returns : goal.returns
returns c =
    coding_ends c.args.file.now (λ z. omega arith) c.loop-j.invariant
