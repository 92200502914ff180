-- The first number of each place: a public name has base and its number, another argument the mark of its canonical bytes.
use Rattle.std.specs.Prelude.{ℕ, ◌+◌, ◌/◌, ◌%◌, ◌<◌, List, ◌≡◌, length, get_or, ltb}
use Rattle.std.specs.Prelude.{Option, Some, None}
use Rattle.lists.specs.Choice.{pick}
use Rattle.term.specs.Term.{variable, public, fresh, Term, leaf, app, encode, Formed, InRange}
use Rattle.term.specs.Arity.{arity}
use Rattle.message.specs.Canon.{canon}
use Rattle.protocol.specs.Protocol.{Fact, Protocol, no_fact}
use Rattle.prepared.specs.Sections.{prepared_length}
use Rattle.prepared.specs.Prepared.{slots_of}
use Rattle.steps.specs.Nodes.{Node, no_node}
use Rattle.steps.specs.Values.Parts.{no_term}
use Rattle.facts.specs.declared.nodes.FactId.{FactId}
use Rattle.facts.specs.Calls.{fact_at, WholeFact}
use Rattle.facts.specs.Marks.{mark_from}
use Rattle.trace.specs.Tables.{base, stride, actions_in}
-- the number of a canonical form by its bytes
pub mod Forms
-- place by place
pub mod Places

-- ── the number of a canonical form ──
abbrev pub public_number : Term → Option ℕ
public_number (leaf variable n) = None
public_number (leaf public n) = Some n
public_number (leaf fresh n) = None
public_number (app f ts) = None

abbrev pub number_by : Option ℕ → ℕ → ℕ
number_by None m = m
number_by (Some n) m = base + n

abbrev pub form_number : Term → ℕ
form_number t = number_by (public_number t) (mark_from 0 (encode t))

-- argument j of a fact; base where it has none
unfoldable pub argument_number : Fact → ℕ → ℕ
argument_number f j = pick (ltb j (length f.terms)) (form_number (canon (get_or f.terms j no_term))) base

-- ── by its bytes ──
pub record FormIn (form p : List ℕ) (t : Term) : Type 0 where
  pub bytes : form ≡ encode t
  pub formed : Formed (arity (slots_of p)) t
  pub range : InRange t
  pub long : length p ≡ prepared_length

-- ── the places of an action ──
-- the fact, and how many arguments it has
pub record Counted (p s nodes : List ℕ) (a : FactId) (count : ℕ) (P : Protocol) (x : Node) : Type 0 where
  pub whole : WholeFact p s nodes a P x
  pub counted : count ≡ length (fact_at P a.list a.number x).terms

-- the action of entry e
pub record ActionOf (p s nodes : List ℕ) (a : FactId) (e : ℕ) (P : Protocol) (xs : List Node) : Type 0 where
  pub whole : WholeFact p s nodes a P (get_or xs a.node no_node)
  pub is : fact_at P a.list a.number (get_or xs a.node no_node) ≡ get_or (actions_in P xs) e no_fact

-- ── all places ──
abbrev pub place_number : Protocol → List Node → ℕ → ℕ
place_number P xs q = argument_number (get_or (actions_in P xs) (q / stride) no_fact) (q % stride)

-- those before m
pub record NumberedTo (classes : List ℕ) (m : ℕ) (P : Protocol) (xs : List Node) : Type 0 where
  pub each : (q : ℕ) → q < m → get_or classes q 0 ≡ place_number P xs q
