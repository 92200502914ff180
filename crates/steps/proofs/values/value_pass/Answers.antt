-- The invariant is that searching on from node j finds what searching all finds; the first bad node ends it.
use Rattle.steps.specs.Values.Scan.{rest_more, rest_bad}
use Rattle.steps.specs.Values.Tests.{node_values_ok}
use Rattle.steps.specs.Table.Laws.{node_in}
use Rattle.steps.specs.Nodes.{no_node}
use Prim.Native.Nat.{◌<◌}
use mathlib.Core.Path.{sym, ◌∙◌}
use lib.ListN.{length, get_or}
use native.Mathlib.Omega.{arith}
use Rattle.steps.proofs.values.value_pass.Goals as goal

pub node_values-requires : goal.node_values-requires
node_values-requires c =
    let (P, xs, h) = c.requires in (
      record { enough = omega (arith, c.loop-j.invariant.0); short = omega (arith, c.loop-j.invariant.0) },
      (P, get_or xs c.loop-j.j no_node, node_in h c.loop-j.j c.loop-j-test.true),
    )

pub loop-j-preserved : goal.loop-j-preserved
loop-j-preserved c = (
  c.node_values.auto.out ∙ c.loop-j.invariant.0,
  λ P xs h.
      let l : c.loop-j.j < length xs = omega (arith, h.count) in
      rest_more (λ k. node_values_ok P) no_node xs _ l (sym (c.node_values.ensures P _ (node_in h c.loop-j.j c.loop-j-test.true)) ∙ c.if-not-node_values.false) (c.loop-j.invariant.1 P xs h),
)

pub returns-then-not-node_values : goal.returns-then-not-node_values
returns-then-not-node_values c =
    λ P xs h.
    let l : c.loop-j.j < length xs = omega (arith, h.count) in
    rest_bad (λ k. node_values_ok P) no_node xs _ l (sym (c.node_values.ensures P _ (node_in h c.loop-j.j c.loop-j-test.true)) ∙ c.if-not-node_values.true)
    (c.loop-j.invariant.1 P xs h)
