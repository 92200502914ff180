-- Four stores, none of which touches another's number.
use Rattle.writer.specs.Sources.Laws.{long_one, long_two, long_three, four_put, put_as}
use native.Mathlib.Omega.{arith}
use Rattle.writer.proofs.sources.put_edge.Goals as goal

pub bounds-edges-from-2 : goal.bounds-edges-from-2
bounds-edges-from-2 c =
    omega (arith, long_one c.args.edges.now c.args.e c.from_one.result 0 0 0 c.requires.0, c.requires.0)

pub bounds-edges-to : goal.bounds-edges-to
bounds-edges-to c =
    omega (
      arith,
      long_two c.args.edges.now c.args.e c.from_one.result c.from_one-2.result 0 0 c.requires.0,
      c.requires.0,
    )

pub bounds-edges-to-2 : goal.bounds-edges-to-2
bounds-edges-to-2 c =
    omega (
      arith,
      long_three c.args.edges.now c.args.e c.from_one.result c.from_one-2.result c.from_one-3.result
          0 c.requires.0,
      c.requires.0,
    )

pub returns : goal.returns
returns c =
    put_as c.from_one.ensures c.from_one-2.ensures c.from_one-3.ensures c.from_one-4.ensures
    (four_put c.args.edges.now c.args.e _ _ _ _ c.requires.0)
