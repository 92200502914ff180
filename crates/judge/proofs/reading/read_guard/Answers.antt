-- Count, sorts, fact and time one behind the other: whatever head reads there, these are its parts.
use Rattle.judge.specs.Reading.Parts.{tells_guard}
use mathlib.Core.Path.{refl}
use Rattle.judge.proofs.reading.read_guard.Goals as goal

pub returns : goal.returns
returns c = (
  tells_guard c.args.file.now c.args.arities.now c.args.every c.read-fresh.ensures c.pass_sorts-k.ensures
      c.read_fact-fact.ensures,
  refl,
)
