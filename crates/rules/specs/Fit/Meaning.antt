-- P1 to P5 as statements: which names, symbols and variables stand where. The tests decide just these.
use Rattle.std.specs.Prelude.{ℕ, List, ◌⊎◌, ◌≡◌, get_or}
use Rattle.lists.specs.Any.{Any}
use Rattle.term.specs.Term.{Kind, variable, fresh, Occurs}
use Rattle.protocol.specs.Figures.{public_sort}
use Rattle.protocol.specs.Protocol.{Fact, Rule, premises, actions, conclusions, fr_symbol, in_symbol, out_symbol, k_symbol}
-- leaves and symbols, and the tests for them
pub mod Leaves
-- the tests decide P1 to P5
pub mod Laws
-- what a verdict says of a file's rules
pub mod Verdicts

-- the variable or name of a kind and number stands in one of these facts
abbrev pub OccursIn : Kind → ℕ → List Fact → Type 0
OccursIn k n = Any (λ f. Any (Occurs k n) f.terms)

-- a fact of this symbol is among these
abbrev pub Among : ℕ → List Fact → Type 0
Among y = Any (λ f. f.symbol ≡ y)

-- variable v of a rule "is in a premise or is of sort public"
abbrev pub Bound : Rule → ℕ → Type 0
Bound r v = OccursIn variable v (premises r) ⊎ (get_or r.sorts v 0 ≡ public_sort)

pub record Fit (r : Rule) : Type 0 where
  -- "no fresh name in a rule"
  pub p1 : (n : ℕ) → Any (OccursIn fresh n) r.lists → ⊥
  -- "no K or Out among premises"
  pub p2 : (Among k_symbol (premises r) ⊎ Among out_symbol (premises r)) → ⊥
  -- "no K, In or Fr among conclusions"
  pub p3 : (Among k_symbol (conclusions r) ⊎ (Among in_symbol (conclusions r) ⊎ Among fr_symbol (conclusions r))) → ⊥
  -- "each variable of a conclusion is in a premise or is of sort public"
  pub p4 : (v : ℕ) → OccursIn variable v (conclusions r) → Bound r v
  -- document 02: "a variable in an action must also stand in a premise, or be of sort public"
  pub p5 : (v : ℕ) → OccursIn variable v (actions r) → Bound r v
