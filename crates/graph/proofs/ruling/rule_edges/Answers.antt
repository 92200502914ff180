-- 10, then 11, then 12 and 13: the first pass that finds an item is the ruling; 11 and later may use that all ends are there.
use Rattle.std.proofs.Common.{arith, sym, ◌∙◌}
use Rattle.std.proofs.lemmas.Result.{err_from_is_err_and}
use Rattle.steps.specs.Values.Scan.{found_refused, found_passed}
use Rattle.graph.specs.Area.{facts_room}
use Rattle.graph.specs.Ruling.{uses_ruling, next_decided, ended_in}
use Rattle.graph.proofs.ruling.rule_edges.Goals as goal

pub returns-in_err-refuse : goal.returns-in_err-refuse
returns-in_err-refuse c =
    let p = err_from_is_err_and c.from_residual.result c.from_residual.ensures.1 in
    rw (p.1, p.2) (λ P g h. sym (found_refused 10 (c.end_pass.ensures _ P g h) _ _ c.in_err-refuse.ensures))

pub fact_pass-requires : goal.fact_pass-requires
fact_pass-requires c =
    let (P, g, h) = c.requires.0 in
    ((P, g, ended_in h (sym c.in_ok-refuse.ensures ∙ c.end_pass.ensures _ P g h)), facts_room c.args.work.now c.requires.1)

pub returns-in_err-refuse-2 : goal.returns-in_err-refuse-2
returns-in_err-refuse-2 c =
    let p = err_from_is_err_and c.from_residual-in_err-refuse-2.result c.from_residual-in_err-refuse-2.ensures.1 in
    rw (p.1, p.2)
    (λ P g h.
    let ends = c.end_pass.ensures c.args.s.now P g h in
    sym (found_passed 10 ends _ c.in_ok-refuse.ensures)
    ∙ sym (found_refused 11 (c.fact_pass.ensures P g (ended_in h (sym c.in_ok-refuse.ensures ∙ ends))) (uses_ruling P g) _ c.in_err-refuse-2.ensures))

pub rule_uses-requires : goal.rule_uses-requires
rule_uses-requires c =
    let (P, g, h) = c.requires.0 in
    ((c.args.s.now, P, g, ended_in h (sym c.in_ok-refuse.ensures ∙ c.end_pass.ensures _ P g h)), omega (arith, c.rule_uses-arg-1.given))

pub returns : goal.returns
returns c =
    λ P g h.
    let ends = c.end_pass.ensures c.args.s.now P g h in
    let ended = ended_in h (sym c.in_ok-refuse.ensures ∙ ends) in
    next_decided 10 g ends _ c.in_ok-refuse.ensures c.rule_uses.result
    (next_decided 11 g (c.fact_pass.ensures P g ended) (uses_ruling P g) c.in_ok-refuse-2.ensures c.rule_uses.result
    (c.rule_uses.ensures c.args.s.now P g ended))
