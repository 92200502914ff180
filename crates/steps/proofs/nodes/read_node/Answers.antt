-- The rule number is read first: a fault is the node's, else enter_node's answer is.
use Rattle.std.specs.Result.{result_ok}
use Rattle.number.specs.Reading.{as_read}
use Rattle.steps.specs.Nodes.Code.{fault_of}
use Rattle.steps.specs.Nodes.Filling.{number_entered, number_broken}
use mathlib.Core.Path.{ap, sym, ◌∙◌}
use Rattle.steps.proofs.nodes.read_node.Goals as goal

pub returns-in_err-r : goal.returns-in_err-r
returns-in_err-r c =
    let (z, none) = fault_of c.read_number.result c.from_residual.result c.from_residual.ensures.1 c.in_err-r.was c.ok_or.ensures.value in
    rw z
    (λ P f. number_broken c.args.at c.args.nodes.now c.args.nodes.now c.args.j (sym c.read_number.ensures ∙ ap as_read none))

pub returns : goal.returns
returns c =
    let is = c.ok_or.ensures.ok_part ∙ ap result_ok c.in_ok-r.was in
    λ P f. number_entered c.args.at _ _ c.args.j _ _ _ (sym c.read_number.ensures ∙ ap as_read is) (c.enter_node.ensures P f)
