-- The invariant is that the facts left, from the place on, decide; each begins behind the one before.
use mathlib.Core.List.{List}
use Prim.Native.Nat.{ℕ, ◌-◌}
use Rattle.lists.specs.Asks.{Promises₂}
use Rattle.protocol.specs.Places.{ReadAs}
use Rattle.protocol.specs.Protocol.{Fact, fact, facts}
use Rattle.prepared.specs.Prepared.{slots_of, arities_of}
use Rattle.steps.specs.Values.Weights.{size_in}
use Rattle.steps.specs.Values.Parts.{Left, fact_small}
use Rattle.steps.proofs.sizes.list_small.Given as goal

abbrev pub invariant-loop : goal.invariant-loop
invariant-loop l =
    Promises₂ (ReadAs (facts l.p (slots_of l.p) (arities_of l.p)) l.place) (λ (fs : List Fact) (e : ℕ). Left (fact l.p (slots_of l.p) (arities_of l.p))
    (fact_small (size_in l.sizes)) fs e (l.facts - l.counter) l.at)
