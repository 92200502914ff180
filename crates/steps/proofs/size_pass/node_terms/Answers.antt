-- The row has the sizes of the node's values, so the rule's test with these sizes is the node's.
use Rattle.steps.specs.Values.Filled.{sizes_small, terms_test}
use Rattle.steps.specs.Table.Laws.{node_listed, node_variables, node_rule_of}
use Rattle.protocol.specs.Figures.{most_variables}
use lib.ListN.{length}
use Prim.Native.Nat.{◌≤◌, ◌+◌, ◌*◌, ◌-◌}
use mathlib.Core.Path.{◌≡◌}
use native.Mathlib.Omega.{arith}
use borrow.Author.Rules.{rules}
use Rattle.steps.proofs.size_pass.node_terms.Goals as goal

pub place_of-requires : goal.place_of-requires
place_of-requires c =
    let h = c.requires.2 in
    (node_listed h, h.prepared.body.long)

pub overflow_add-first-2 : goal.overflow_add-first-2
overflow_add-first-2 c =
    let h = c.requires.2 in
    let b : c.variables_of-k.result ≤ most_variables = omega (arith, c.variables_of-k.ensures, node_variables h _ c.place_of.ensures, h.row.few) in
    let d = h.few in
    search rules

pub slice_bounds-rule_small-end : goal.slice_bounds-rule_small-end
slice_bounds-rule_small-end c =
    let h = c.requires.2 in
    omega (arith, c.variables_of-k.ensures, node_variables h _ c.place_of.ensures, h.row.few, h.few, h.long)

pub rule_small-requires : goal.rule_small-requires
rule_small-requires c =
    let h = c.requires.2 in
    let m : 35 * c.args.j + 18 + c.variables_of-k.result - (35 * c.args.j + 18) ≡ length c.requires.1.values = omega
    (arith, c.variables_of-k.ensures, node_variables h _ c.place_of.ensures) in
    ((c.requires.0, h.within.is, node_rule_of h), sizes_small h _ m (λ k. (c.type_inv.s k).fits))

pub returns : goal.returns
returns c =
    λ P x h.
    let m : 35 * c.args.j + 18 + c.variables_of-k.result - (35 * c.args.j + 18) ≡ length x.values = omega
    (arith, c.variables_of-k.ensures, node_variables h _ c.place_of.ensures) in
    terms_test h _ m _ (c.rule_small.ensures P h.within.is (node_rule_of h))
