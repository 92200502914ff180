-- A list that reads has its nodes in the table, so rule_nodes rules on it; a fault is 3, an unknown rule 6.
use Rattle.steps.specs.Causes.Good.{where_good}
use Rattle.steps.specs.Causes.Code.{list_read, list_in, list_nodes}
use Rattle.steps.proofs.ruling.rule_steps.Goals as goal

pub rule_nodes-requires : goal.rule_nodes-requires
rule_nodes-requires c =
    let (P, f) = c.requires.0 in
    let told = c.read_steps.ensures P f in (
      P,
      (list_read P c.args.p.now c.args.s.now c.read_steps.new.nodes c.read_steps.result told c.in-Ok.is).items,
      list_in P c.args.p.now c.args.s.now c.read_steps.new.nodes c.read_steps.result told
          c.in-Ok.is f (λ k. (c.type_inv.s k).fits) c.requires.1,
    )

pub returns-in-Ok : goal.returns-in-Ok
returns-in-Ok c =
    record {
      ruled = λ P f. let told = c.read_steps.ensures P f in
          list_nodes P c.args.p.now c.args.s.now c.read_steps.new.nodes c.read_steps.result told c.in-Ok.is
          c.rule_nodes.result (c.rule_nodes.ensures P _ (list_in P c.args.p.now c.args.s.now c.read_steps.new.nodes
          c.read_steps.result told c.in-Ok.is f (λ k. (c.type_inv.s k).fits) c.requires.1));
      good = λ P f. let told = c.read_steps.ensures P f in
          where_good P c.args.p.now c.args.s.now c.read_steps.new.nodes (λ k. (c.type_inv.s k).fits) _ _
          (list_read P c.args.p.now c.args.s.now c.read_steps.new.nodes c.read_steps.result told c.in-Ok.is)
          c.rule_nodes.result (c.rule_nodes.ensures P _ (list_in P c.args.p.now c.args.s.now c.read_steps.new.nodes
          c.read_steps.result told c.in-Ok.is f (λ k. (c.type_inv.s k).fits) c.requires.1));
    }
