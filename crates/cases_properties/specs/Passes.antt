-- What is left of a case whose property is good: it passes, and is posed over right nodes.
use Rattle.std.specs.Prelude.{ℕ, List, ◌≡◌, Result, Ok}
use Rattle.lists.specs.Asks.{Promises, Asks₂, Asks₃}
use Rattle.case_nodes.specs.declared.Refusal.{Refusal}
use Rattle.case_nodes.specs.Answers.{answered}
use Rattle.protocol.specs.Protocol.{Protocol, fact_arities}
use Rattle.prepared.specs.Prepared.{Body}
use Rattle.steps.specs.Causes.Good.{RightNodes}
use Rattle.property.specs.Formula.{Formula}
use Rattle.property.specs.Layout.{property}
use Rattle.property.specs.Causes.{property_ruling}
use Rattle.property.specs.Causes.Laws.{Passing}
use Rattle.property.specs.Causes.Code.{plainly, good_passing}
use Rattle.verdict.specs.Judged.{Posed}

-- under the prepared protocol some formula passes
abbrev pub Passes : List ℕ → List ℕ → Type 0
Passes p file = Promises (Body p) (λ (P : Protocol). (φ : Formula) × Passing (property file (fact_arities P.symbols)) φ)

-- as the ruling of the property says
pub good_passes :
    {p : List ℕ} (file : List ℕ) {r : Result (Unit {0}) Refusal} → r ≡ Ok tt
    → Promises (Body p) (λ (P : Protocol). answered r ≡ plainly (property_ruling (property file (fact_arities P.symbols)))) → Passes p file
good_passes file {r} is ruled P b = good_passing (property file (fact_arities P.symbols)) r (ruled P b) is

-- over the right nodes of a step list
pub posed :
    {p file s nodes : List ℕ} {n : ℕ} → Passes p file → Asks₂ (RightNodes p s nodes n) → Asks₃ (Posed p file s nodes n)
posed passes (P, xs, r) =
    let (φ, q) = passes P r.stand.prepared.body in (P, xs, φ, record { right = r; passing = q })
