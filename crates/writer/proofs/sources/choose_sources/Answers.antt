-- Either table is empty and has an entry for each conclusion that so many nodes can have.
use Prim.Native.Nat.{◌*◌}
use Rattle.steps.specs.Table.{few_nodes}
use Rattle.steps.specs.Nodes.{most_nodes}
use Rattle.protocol.specs.Figures.{most_facts}
use Rattle.lists.specs.Lists.Laws.{zeros_at}
use native.Mathlib.Omega.{arith}
use Rattle.writer.proofs.sources.choose_sources.Goals as goal

pub choose_with-requires : goal.choose_with-requires
choose_with-requires c =
    (c.requires.0, c.requires.1, c.requires.2, omega arith, λ i. zeros_at (most_facts * few_nodes) i)

pub choose_with-requires-2 : goal.choose_with-requires-2
choose_with-requires-2 c = (
  c.requires.0,
  c.requires.1,
  c.requires.2,
  (let (P, xs, r) = c.requires.0 in omega (arith, r.stand.few, r.stand.count)),
  λ i. zeros_at (most_facts * most_nodes)
      i,
)
