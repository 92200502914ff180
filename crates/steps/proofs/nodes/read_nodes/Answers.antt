-- A count up to 512 and that many nodes, or a fault: the cases of `node_list`.
use Rattle.std.specs.Result.{result_ok}
use Rattle.steps.specs.Nodes.Code.{fault_of, told_as, nodes_got, nodes_fault}
use Rattle.number.specs.Reading.Numbers.{below_inside}
use Rattle.number.specs.Reading.{as_read}
use mathlib.Core.Path.{ap, sym, ◌∙◌}
use native.Mathlib.Omega.{arith}
use Rattle.steps.proofs.nodes.read_nodes.Goals as goal

pub nodes_from-requires : goal.nodes_from-requires
nodes_from-requires c =
    let q = sym c.below.ensures ∙ ap as_read (c.ok_or.ensures.ok_part ∙ ap result_ok c.in_ok-n.was) in
    let b = below_inside _ _ _ (λ i. (c.type_inv.s i).fits) _ _ q in
    (c.requires.0, c.requires.1, omega (arith, b.small), c.requires.2 _ _ q)

pub returns : goal.returns
returns c =
    let q = sym c.below.ensures ∙ ap as_read (c.ok_or.ensures.ok_part ∙ ap result_ok c.in_ok-n.was) in
    λ P f. told_as _ _ (nodes_got P _ _ q) c.args.p.now c.args.s.now c.nodes_from.new.nodes c.nodes_from.result (c.nodes_from.ensures P f)

pub returns-in_err-n : goal.returns-in_err-n
returns-in_err-n c =
    let (z, none) = fault_of c.below.result c.from_residual.result c.from_residual.ensures.1 c.in_err-n.was c.ok_or.ensures.value in
    rw z (λ P f. nodes_fault P _ _ (sym c.below.ensures ∙ ap as_read none))
