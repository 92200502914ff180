-- Four numbers are an edge, so the count's bytes and the numbers' are the edges' bytes.
use Rattle.std.proofs.Common.{arith, ◌*◌, length-take-le}
use Rattle.writer.specs.Edges.Laws.{number_short, edges_length}
use Rattle.writer.proofs.edges.edges_len.Goals as goal

pub overflow_add-result : goal.overflow_add-result
overflow_add-result c =
    let (es, h) = c.requires in
    omega (arith, c.number_len.ensures, number_short c.args.m (omega (arith, h.few)), c.numbers_len.ensures.1, h.few, length-take-le (4 * c.args.m) c.args.edges.now h.long)

pub returns : goal.returns
returns c =
    record {
      counted = (λ es h. edges_length h _ _ c.number_len.ensures c.numbers_len.ensures.0);
      few = (let (es, h) = c.requires in
          omega (arith, c.number_len.ensures, number_short c.args.m (omega (arith, h.few)), c.numbers_len.ensures.1, h.few, length-take-le (4 * c.args.m) c.args.edges.now h.long));
    }
