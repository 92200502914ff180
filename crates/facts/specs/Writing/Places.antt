-- A node's values at their places, as the canonical form of what they fill takes them.
use Rattle.std.specs.Prelude.{ℕ, ◌+◌, ◌<◌, List, ◌≡◌, length, get_or, drop}
use Rattle.std.proofs.Common.{ap, ◌∙◌, arith}
use Rattle.octets.specs.Head.{Bytes}
use Rattle.number.specs.Reading.{got}
use Rattle.term.specs.Term.{variable, Term, leaf}
use Rattle.term.specs.Reader.{term}
use Rattle.term.specs.Reader.Exact.{term_form}
use Rattle.message.specs.Canon.{canon}
use Rattle.canonical.specs.Contract.{Value}
use Rattle.lists.specs.All.Laws.{same_inside}
use Rattle.steps.specs.Facts.{value_at}
use Rattle.steps.specs.Values.Parts.{no_term}

-- each value from its place up to the next
pub record Placed (s arities starts : List ℕ) (vs : List Term) : Type 0 where
  pub each : (v : ℕ) → v < length vs → term s arities (get_or starts v 0) ≡ got (get_or vs v no_term) (get_or starts (v + 1) 0)
  pub many : length vs < length starts

-- such a value that is its own canonical form is what canonical forms are filled in with
pub placed_value :
    (s arities starts : List ℕ) (vs : List Term) → Bytes s → Placed s arities starts vs → (v : ℕ) → v < length vs → canon (value_at vs v) ≡ value_at vs v
    → Value arities s starts v (value_at vs v)
placed_value s arities starts vs bytes placed v l own =
    let e : ℕ = get_or starts (v + 1) 0 in
    let same : get_or vs v no_term ≡ value_at vs v = same_inside vs v no_term (leaf variable v) l in
    let f = term_form s arities bytes (value_at vs v) (get_or starts v 0) e (placed.each v l ∙ ap (λ (t : Term). got t e) same) in
    record {
      listed = omega (arith, placed.many);
      rest = drop e s;
      there = f.1.there;
      ends = f.1.ends;
      formed = f.0.0;
      range = f.0.1;
      own = own;
    }
