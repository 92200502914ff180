-- The list's end is the file's, or bytes are left over, or the list's own fault.
use Rattle.steps.specs.Nodes.Code.{steps_end, steps_leftover, steps_fault}
use Rattle.std.proofs.lemmas.Result.{err_from_is_err_and}
use Rattle.steps.proofs.nodes.read_steps.Goals as goal

pub returns-then-e-s : goal.returns-then-e-s
returns-then-e-s c =
    λ P f. steps_end P c.args.p.now c.args.s.now c.read_nodes.new.nodes c.read_nodes.result (c.read_nodes.ensures P f)
    c.in_ok-n.was c.if-e-s.true

pub returns-else-e-s : goal.returns-else-e-s
returns-else-e-s c =
    λ P f. steps_leftover P c.args.p.now c.args.s.now c.read_nodes.new.nodes c.read_nodes.result (c.read_nodes.ensures P f)
    c.in_ok-n.was c.if-e-s.false

pub returns-in_err-n : goal.returns-in_err-n
returns-in_err-n c =
    let p = err_from_is_err_and c.from_residual.result c.from_residual.ensures.1 in
    rw (p.1, p.2)
    (λ P f. steps_fault P c.args.p.now c.args.s.now c.read_nodes.new.nodes c.read_nodes.result (c.read_nodes.ensures P f)
    _ c.in_err-n.was)
