-- A variable from n on is met or not: the two answers of the walk decide whether the lists are closed.
use Rattle.number.specs.Groups.{number_limit}
use Rattle.protocol.specs.Protocol.Walks.{closed, parts_closed, parts_by}
use Rattle.protocol.specs.Protocol.{facts}
use Rattle.number.specs.Reading.{many}
use Rattle.std.proofs.Common.{Some, None}
use Rattle.lists.specs.Choice.{pick}
use mathlib.Core.Path.{ap, sym, ◌∙◌}
use mathlib.Core.Bool.{Bool}
use Rattle.protocol.proofs.walks.closed_lists.Goals as goal

pub returns-then-h : goal.returns-then-h
unfolding number_limit
returns-then-h c =
    ap (λ (b : Bool). pick b None (Some c.in_ok-e.e)) (sym c.if-h.true) ∙ parts_by c.args.n
    (many (facts c.args.x.now.file.now c.args.x.now.arities.now c.args.x.now.ars.now) 3 c.args.at) c.some_lists.ensures _ _
    c.in_ok-e.was

pub returns : goal.returns
unfolding number_limit
returns c =
    ap (λ (b : Bool). pick b None (Some c.in_ok-e.e)) (sym c.if-h.false) ∙ parts_by c.args.n
    (many (facts c.args.x.now.file.now c.args.x.now.arities.now c.args.x.now.ars.now) 3 c.args.at) c.some_lists.ensures _ _
    c.in_ok-e.was

pub returns-in_err-e : goal.returns-in_err-e
unfolding number_limit
returns-in_err-e c =
    rw c.from_residual.ensures (ap closed (sym c.in_err-e.was) ∙ parts_closed c.args.n (many (facts c.args.x.now.file.now c.args.x.now.arities.now c.args.x.now.ars.now) 3
    c.args.at) c.some_lists.ensures)
