-- The invariant is that the terms left, from the place on, decide and end where the fact ends; each begins behind the one before.
use Prim.Native.Nat.{ℕ, ◌-◌}
use Rattle.lists.specs.Asks.{Promises₂}
use Rattle.protocol.specs.Places.{ReadAs}
use Rattle.protocol.specs.Protocol.{Fact, fact, rule_term}
use Rattle.prepared.specs.Prepared.{slots_of, arities_of}
use Rattle.steps.specs.Values.Weights.{size_in, term_small}
use Rattle.steps.specs.Values.Parts.{Left}
use Rattle.steps.proofs.sizes.fact_small.Given as goal

abbrev pub invariant-loop : goal.invariant-loop
invariant-loop l =
    Promises₂ (ReadAs (fact l.p (slots_of l.p) (arities_of l.p)) l.place) (λ (f : Fact) (e : ℕ). Left (rule_term l.p (slots_of l.p)) (term_small (size_in l.sizes)) f.terms e
    (l.terms - l.counter) l.at)
