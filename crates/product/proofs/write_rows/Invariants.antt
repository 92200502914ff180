-- The invariant is that what is written and the rows from the next on are the whole side; each turn writes a factor as often as it rises.
use Rattle.std.proofs.Common.{Some}
use Rattle.product.proofs.LayPaths.{Laying, place}
use Rattle.product.specs.Inner.{Lay}
use Rattle.message.specs.Product.{Exps}
use Prim.Native.Nat.{ℕ, ◌-◌, ◌<◌}
use mathlib.Core.Path.{◌≡◌}
use lib.ListN.{length}
use Rattle.product.proofs.write_rows.Given as goal

abbrev pub invariant-loop-next : goal.invariant-loop-next
invariant-loop-next l = record {
  long : length l.out ≡ length l.initial.out;
  inside : (r : ℕ) → l.next ≡ Some r → r < length l.entries;
  laying : (es : Exps) (L : Lay l.initial.out l.entries l.minus l.o 0 es)
      → Laying l.entries l.minus l.o l.initial.out l.out l.p (place l.entries l.next) es L;
}

abbrev pub decreases-loop-next : goal.decreases-loop-next
decreases-loop-next l =
    length l.entries - place l.entries l.next
