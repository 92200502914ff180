-- The bytes that stood from one place to another stand at o, and nothing before o is touched.
use mathlib.Core.Path.{refl}
use Rattle.canonical.proofs.Writes.{moved}
use Rattle.canonical.proofs.move_to.Goals as goal

pub returns : goal.returns
returns c =
    moved _ c.args.o c.args.from c.args.to _ _ c.requires.0 c.requires.1 c.requires.2 c.copy_within.ensures refl
