-- 12, then 13: the first pass that finds a node is the ruling, and none is the pass.
use Rattle.std.proofs.Common.{sym}
use Rattle.std.proofs.lemmas.Result.{err_from_is_err_and}
use Rattle.steps.specs.Values.Scan.{found_refused}
use Rattle.graph.specs.Ruling.{last_decided, next_decided}
use Rattle.graph.proofs.ruling.rule_uses.Goals as goal

pub returns-in_err-refuse : goal.returns-in_err-refuse
returns-in_err-refuse c =
    let p = err_from_is_err_and c.from_residual.result c.from_residual.ensures.1 in
    rw (p.1, p.2) (λ s P g h. sym (found_refused 12 (c.premise_pass.ensures s P g h) _ _ c.in_err-refuse.ensures))

pub returns : goal.returns
returns c =
    λ s P g h. next_decided 12 g (c.premise_pass.ensures s P g h) _ c.in_ok-refuse.ensures c.refuse-2.result
    (last_decided 13 g (c.conclusion_pass.ensures s P g h) c.refuse-2.result c.refuse-2.ensures)
