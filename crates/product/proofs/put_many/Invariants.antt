-- The invariant is that as many copies as there were turns are written up to p; the source lies before them, so it is not touched.
use Rattle.product.specs.Chain.{repeated}
use Rattle.product.specs.Writing.{bytes_in}
use Rattle.octets.specs.Splice.Prefix.{Wrote}
use mathlib.Core.Path.{◌≡◌}
use lib.ListN.{length}
use Rattle.product.proofs.put_many.Given as goal

abbrev pub invariant-loop : goal.invariant-loop
invariant-loop l =
    (length l.out ≡ length l.initial.out) × Wrote l.p l.initial.out l.o l.out l.p (repeated l.counter (bytes_in l.initial.out l.a l.e))
