-- Four numbers are an edge, so 4m numbers read are m edges; fewer bytes than numbers cannot hold them.
use native.Mathlib.Omega.{arith}
use Rattle.graph.specs.Table.Reading.{edges_end, edges_fault, edges_short}
use Rattle.graph.proofs.edges.edges_from.Goals as goal

pub returns-then-s-k : goal.returns-then-s-k
returns-then-s-k c =
    edges_short c.args.s.now (λ k. (c.type_inv.s k).fits) c.args.at c.args.m c.if-s-k.true

pub read_numbers-requires : goal.read_numbers-requires
read_numbers-requires c =
    omega (arith, c.requires.1 c.args.m c.requires.0 (omega (arith, c.if-s-k.false)))

pub returns : goal.returns
returns c =
    edges_end c.args.s.now c.args.at c.args.m c.read_numbers.new.edges c.read_numbers.result c.read_numbers.ensures
    c.in_ok-e.was c.requires.0 (omega (
      arith,
      c.read_numbers.auto.edges,
      c.requires.1 c.args.m c.requires.0
          (omega (arith, c.if-s-k.false)),
    ))

pub returns-in_err-e : goal.returns-in_err-e
returns-in_err-e c =
    rw c.from_residual.ensures
    (edges_fault c.args.s.now c.args.at c.args.m c.read_numbers.new.edges c.read_numbers.result c.read_numbers.ensures c.in_err-e.was)
