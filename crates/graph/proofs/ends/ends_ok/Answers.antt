-- The edge's four numbers are read off the table, and `ends_ok` is the conjunction of the three tests.
use Prim.Native.Nat.{◌+◌, ◌*◌}
use Rattle.graph.specs.Table.{end_at}
use Rattle.graph.specs.Ends.{ends_read}
use Rattle.graph.proofs.ends.ends_ok.Goals as goal

pub returns : goal.returns
returns c =
    λ s P xs h. ends_read P xs (end_at c.args.edges.now (4 * c.args.j + 0)) (end_at c.args.edges.now (4 * c.args.j + 2))
    c.number_at-source.ensures c.number_at-conclusion.ensures c.number_at-target.ensures c.number_at-premise.ensures
    (c.end_there-has_source.ensures s P xs h) (c.end_there-has_target.ensures s P xs h)
