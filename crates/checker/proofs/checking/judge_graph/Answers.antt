-- The verdict's truth decides between run and attack, and its count and the two sizes are the line's counts.
use Rattle.checker.specs.Check.Inside.{told}
use Rattle.graph.specs.Area.{facts_room}
use mathlib.Core.Path.{sym, ◌∙◌}
use Rattle.checker.proofs.checking.judge_graph.Goals as goal

pub judge_nodes-verdict-requires : goal.judge_nodes-verdict-requires
judge_nodes-verdict-requires c =
    (c.requires.0, facts_room c.args.work.now c.requires.1)

pub returns-then-verdict : goal.returns-then-verdict
returns-then-verdict c =
    λ P xs f h.
    let j = c.judge_nodes-verdict.ensures P xs f h in
    told _ _ P xs f (sym c.if-verdict.true ∙ j.truth_is) j.active_is

pub returns : goal.returns
returns c =
    λ P xs f h.
    let j = c.judge_nodes-verdict.ensures P xs f h in
    told _ _ P xs f (sym c.if-verdict.false ∙ j.truth_is) j.active_is
