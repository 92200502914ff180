-- Below 2 it is one more, else it stays: the two cases of the cap.
use Prim.Native.Nat.{◌+◌}
use mathlib.Core.Bool.{Bool}
use mathlib.Core.Path.{ap, sym}
use Rattle.lists.specs.Choice.{pick}
use borrow.Author.Tests.{lt-ltb, le-ltb}
use Rattle.graph.proofs.uses.one_more.Goals as goal

pub returns-then-count-lt-TWICE : goal.returns-then-count-lt-TWICE
returns-then-count-lt-TWICE c =
    sym (ap (λ (b : Bool). pick b (c.args.count + 1) 2) (lt-ltb c.args.count 2 c.if-count-lt-TWICE.true))

pub returns : goal.returns
returns c =
    sym (ap (λ (b : Bool). pick b (c.args.count + 1) 2) (le-ltb c.args.count 2 c.if-count-lt-TWICE.false))
