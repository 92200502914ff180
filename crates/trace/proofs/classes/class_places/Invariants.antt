-- The invariant is that the places below q are classed and the chains hold those that begin a class; each turn adds one.
use lib.ListN.{length}
use mathlib.Core.Path.{◌≡◌}
use mathlib.Core.List.{List}
use Rattle.steps.specs.Nodes.{Node}
use Rattle.lists.specs.Asks.{Promises₂}
use Rattle.protocol.specs.Protocol.{Protocol}
use Rattle.trace.specs.Chains.{Classed}
use Rattle.trace.specs.Classes.{Ready, key_at}
use Rattle.trace.proofs.classes.class_places.Given as goal

abbrev pub invariant-loop-q : goal.invariant-loop-q
invariant-loop-q l =
    (length l.work ≡ length l.initial.work) × (length l.classes ≡ length l.initial.classes) × (length l.chains ≡ length l.initial.chains) × Promises₂
    (Ready l.p l.s l.nodes l.entries l.initial.classes (length l.entries)) (λ (P : Protocol) (xs : List Node). Classed (key_at P xs) l.initial.classes l.classes l.chains l.q)
