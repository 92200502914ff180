-- What is left of a case whose step list is good: its nodes stand in the table, under the prepared protocol, and they are right.
use Rattle.std.specs.Prelude.{ℕ, ◌≤◌, List, length, Result, Ok, Err, IfOk}
use Rattle.lists.specs.Asks.{Asks, Promises, Asks₂}
use Rattle.octets.specs.Limits.{longest}
use Rattle.octets.specs.Head.{Bytes}
use Rattle.rewriting.specs.declared.Refusal.{Refusal}
use Rattle.protocol.specs.Protocol.{Protocol}
use Rattle.prepared.specs.Prepared.{Prepared}
use Rattle.steps.specs.Causes.Good as steps
use Rattle.steps.specs.Causes.Good.{RightNodes, good_right}

abbrev pub WhereGood : List ℕ → List ℕ → List ℕ → Result ℕ Refusal → Type 0
WhereGood p s nodes r = IfOk r (λ n. Asks₂ (RightNodes p s nodes n))

-- as the ruling of the step list says
pub where_good :
    (p s nodes : List ℕ) (r : Result ℕ Refusal) → Bytes s → Asks (Prepared p) → length s ≤ longest
    → Promises (Prepared p) (λ (P : Protocol). steps.WhereGood P p s nodes r) → WhereGood p s nodes r
where_good p s nodes (Ok n) bytes (P, f) short good =
    let g = good P f in
    (P, g.items, good_right P p s nodes bytes f short 0 n (length s) g)
where_good p s nodes (Err e) bytes a short good = tt
