-- The invariant is that the places up to 8e + j are numbered; each turn numbers one, a missing argument with the base.
use Rattle.trace.specs.Numbers.{ActionOf, NumberedTo}
use Rattle.trace.specs.Tables.{stride}
use Rattle.protocol.specs.Protocol.{Protocol}
use Rattle.lists.specs.Asks.{Promises₂}
use Rattle.steps.specs.Nodes.{Node}
use Prim.Native.Nat.{◌+◌, ◌*◌}
use mathlib.Core.List.{List}
use mathlib.Core.Path.{◌≡◌}
use lib.ListN.{length}
use Rattle.trace.proofs.numbers.number_action.Given as goal

abbrev pub invariant-loop-j : goal.invariant-loop-j
invariant-loop-j l =
    (length l.work ≡ length l.initial.work) × (length l.classes ≡ length l.initial.classes) × Promises₂ (ActionOf l.p l.s l.nodes l.f.id l.e)
    (λ (P : Protocol) (xs : List Node). NumberedTo l.initial.classes (stride * l.e) P xs → NumberedTo l.classes (stride * l.e + l.j) P xs)
