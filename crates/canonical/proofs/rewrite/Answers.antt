-- The arguments are an instance of the rule's patterns, and the result is written, or they are none, and nothing changes.
use native.Mathlib.Omega.{arith}
use Rattle.canonical.proofs.Rules.{ruled_fits, ruled_asks, ruled_stays, ruled_gives, ruled_done}
use Rattle.canonical.proofs.rewrite.Goals as goal

pub overflow_add-o : goal.overflow_add-o
overflow_add-o c =
    let p = ruled_fits _ _ _ _ _ _ c.requires in omega (arith, p.0, p.1)

pub fits-requires : goal.fits-requires
fits-requires c =
    ruled_asks _ _ _ _ _ _ c.requires

pub put_result-requires : goal.put_result-requires
put_result-requires c =
    ruled_gives _ _ _ _ _ _ _ _ c.fits.ensures c.if-fits.true c.requires

pub returns-then-fits : goal.returns-then-fits
returns-then-fits c =
    ruled_done _ _ _ _ _ _ _ _ c.fits.ensures c.if-fits.true _ _ c.put_result.ensures

pub returns : goal.returns
returns c =
    ruled_stays _ _ _ _ _ _ _ _ c.fits.ensures c.if-fits.false
