-- The test tells which of the two layouts the chains have.
use mathlib.Core.Path.{sym}
use Rattle.trace.specs.Chains.Laws.{chain_few, chain_many}
use Rattle.trace.proofs.classes.head_place.Goals as goal

pub returns-then-size-lt-CHAINS : goal.returns-then-size-lt-CHAINS
returns-then-size-lt-CHAINS c =
    sym (chain_few _ c.if-size-lt-CHAINS.true)

pub returns : goal.returns
returns c =
    sym (chain_many _ c.if-size-lt-CHAINS.false)
