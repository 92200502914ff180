-- A file that reads has its nodes and edges in the tables, so rule_read rules on it; a fault is 3, an unknown rule 6.
use Rattle.std.proofs.lemmas.Result.{err_from_is_err_and}
use Rattle.graph.proofs.Files.{file_fault, file_read, file_in, file_passed, file_refused}
use Rattle.graph.proofs.ruling.rule_graph.Goals as goal

pub rule_read-requires : goal.rule_read-requires
rule_read-requires c =
    let (P, f) = c.requires.0 in (
      (
        P,
        (file_read P c.args.p.now c.args.s.now c.read_graph.new.nodes c.read_graph.new.edges c.read_graph.result
            (c.read_graph.ensures P f) c.in-Ok.is f (λ k. (c.type_inv.s k).fits) c.requires.1).is,
        file_in P c.args.p.now c.args.s.now
            c.read_graph.new.nodes c.read_graph.new.edges c.read_graph.result (c.read_graph.ensures P f) c.in-Ok.is f
            (λ k. (c.type_inv.s k).fits) c.requires.1,
      ),
      c.requires.4,
    )

pub returns-in_err-rule_read-in-Ok : goal.returns-in_err-rule_read-in-Ok
returns-in_err-rule_read-in-Ok c =
    λ P f.
    let p = err_from_is_err_and c.from_residual.result c.from_residual.ensures.1 in
    rw (p.1, p.2) (file_refused P c.args.p.now c.args.s.now c.read_graph.new.nodes c.read_graph.new.edges
    c.read_graph.result (c.read_graph.ensures P f) c.in-Ok.is f (λ k. (c.type_inv.s k).fits) c.requires.1
    (c.rule_read.ensures P _ (file_in P c.args.p.now c.args.s.now c.read_graph.new.nodes
    c.read_graph.new.edges c.read_graph.result (c.read_graph.ensures P f) c.in-Ok.is f
    (λ k. (c.type_inv.s k).fits) c.requires.1)) c.in_err-rule_read-in-Ok.was)

pub returns-in_ok-rule_read-in-Ok : goal.returns-in_ok-rule_read-in-Ok
returns-in_ok-rule_read-in-Ok c =
    λ P f. file_passed P c.args.p.now c.args.s.now c.read_graph.new.nodes c.read_graph.new.edges
    c.read_graph.result (c.read_graph.ensures P f) c.in-Ok.is f (λ k. (c.type_inv.s k).fits) c.requires.1
    (c.rule_read.ensures P _ (file_in P c.args.p.now c.args.s.now c.read_graph.new.nodes
    c.read_graph.new.edges c.read_graph.result (c.read_graph.ensures P f) c.in-Ok.is f
    (λ k. (c.type_inv.s k).fits) c.requires.1)) c.in_ok-rule_read-in-Ok.was

pub returns-in-Err : goal.returns-in-Err
returns-in-Err c =
    λ P f.
    rw c.fault_refusal.ensures
    (file_fault P c.args.p.now c.args.s.now c.read_graph.new.nodes c.read_graph.new.edges c.read_graph.result (c.read_graph.ensures P f) _ c.in-Err.is)
