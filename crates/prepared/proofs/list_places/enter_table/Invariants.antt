-- The invariant is that the entries of the first n rules are right and the body stays; each turn enters a number.
use Rattle.prepared.specs.Lists.{Listing}
use Rattle.prepared.specs.Prepared.{body_of}
use Rattle.prepared.specs.Sections.{prepared_length}
use Prim.Native.Nat.{◌*◌}
use mathlib.Core.Path.{◌≡◌}
use lib.ListN.{length}
use Rattle.prepared.proofs.list_places.enter_table.Given as goal

abbrev pub invariant-loop-n : goal.invariant-loop-n
invariant-loop-n l =
    (length l.p ≡ prepared_length) × (body_of l.p ≡ body_of l.initial.p) × Listing l.p (3 * l.n)
