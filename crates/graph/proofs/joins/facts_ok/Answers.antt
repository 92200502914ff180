-- Both ends are there, so none of their numbers is 0, and same_fact compares the two facts that they name.
use native.Mathlib.Omega.{arith}
use Prim.Native.Nat.{◌-◌}
use lib.ListN.{get_or}
use Rattle.steps.specs.Nodes.{no_node}
use Rattle.graph.specs.Joins.{source_end, target_end, facts_in, facts_agree}
use Rattle.graph.proofs.joins.facts_ok.Goals as goal

pub overflow_sub-source : goal.overflow_sub-source
overflow_sub-source c =
    let (P, xs, h) = c.requires.0 in omega (arith, c.number_at.ensures, (source_end h).is.node_is)

pub overflow_sub-source-2 : goal.overflow_sub-source-2
overflow_sub-source-2 c =
    let (P, xs, h) = c.requires.0 in omega (arith, c.number_at-2.ensures, (source_end h).is.index_is)

pub overflow_sub-target : goal.overflow_sub-target
overflow_sub-target c =
    let (P, xs, h) = c.requires.0 in omega
    (arith, c.number_at-3.ensures, (target_end h).is.node_is)

pub overflow_sub-target-2 : goal.overflow_sub-target-2
overflow_sub-target-2 c =
    let (P, xs, h) = c.requires.0 in omega
    (arith, c.number_at-4.ensures, (target_end h).is.index_is)

pub same_fact-requires : goal.same_fact-requires
same_fact-requires c =
    let (P, xs, h) = c.requires.0 in (
      (
        P,
        get_or xs (c.number_at.result - 1) no_node,
        get_or xs (c.number_at-3.result - 1) no_node,
        facts_in h c.number_at.ensures
            c.number_at-2.ensures c.number_at-3.ensures c.number_at-4.ensures,
      ),
      c.requires.1,
    )

pub returns : goal.returns
returns c =
    λ P xs h. facts_agree h c.number_at.ensures c.number_at-2.ensures c.number_at-3.ensures c.number_at-4.ensures _
    (c.same_fact.ensures P _ _ (facts_in h c.number_at.ensures c.number_at-2.ensures c.number_at-3.ensures
    c.number_at-4.ensures))
