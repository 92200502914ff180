-- What the callers of this crate owe: of nodes that are right each fact that they have can be asked about, each argument of these, and any
-- two of them together.
use Rattle.std.specs.Prelude.{ℕ, ◌<◌, List, ◌≡◌, length, get_or}
use Rattle.std.proofs.Common.{arith}
use Rattle.lists.specs.Asks.{Asks₂, Promises₂, Asks₃, Promises₃}
use Rattle.lists.specs.All.Laws.{all_inside}
use Rattle.protocol.specs.Protocol.{Protocol}
use Rattle.steps.specs.Nodes.{Node, no_node}
use Rattle.steps.specs.Facts.{facts_of}
use Rattle.steps.specs.Table.Laws.{node_in}
use Rattle.steps.specs.Values.{NodeRight}
use Rattle.steps.specs.Causes.Good.{RightNodes}
use Rattle.facts.specs.declared.writing.Wanted.{Wanted}
use Rattle.facts.specs.declared.writing.Wanted.TheVariants as want
use Rattle.facts.specs.declared.nodes.FactId.{FactId}
use Rattle.facts.specs.Writing.{fact_room}
use Rattle.facts.specs.Calls.{NodeOf, ListedFact, FactIn, FactsIn, Room, fact_at}
use Rattle.facts.specs.Calls.Laws.{fact_listed}

-- whatever right nodes stand in the table, they have the fact
abbrev pub HasFact : List ℕ → List ℕ → List ℕ → ℕ → FactId → Wanted → Type 0
HasFact p s nodes n a q = Promises₂ (RightNodes p s nodes n) (λ (P : Protocol) (xs : List Node). FactIn p s nodes a q P (get_or xs a.node no_node))

-- ── laws ──
module _ {p s nodes : List ℕ} {n : ℕ} where
  pub asks_node : Asks₂ (RightNodes p s nodes n) → (j : ℕ) → j < n → Asks₃ (NodeOf p nodes j)
  asks_node (P, xs, r) j l = (s, P, get_or xs j no_node, node_in r.stand j l)

  pub asks_fact : {a : FactId} {q : Wanted} → Asks₂ (RightNodes p s nodes n) → HasFact p s nodes n a q → Asks₂ (FactIn p s nodes a q)
  asks_fact {a} (P, xs, r) f = (P, get_or xs a.node no_node, f P xs r)

  pub asks_listed : {a : FactId} {q : Wanted} → Asks₂ (RightNodes p s nodes n) → HasFact p s nodes n a q → Asks₃ (ListedFact p nodes a)
  asks_listed {a} (P, xs, r) f = (s, P, get_or xs a.node no_node, fact_listed (f P xs r))

  pub asks_facts :
      {a b : FactId} {q r : Wanted} → Asks₂ (RightNodes p s nodes n) → HasFact p s nodes n a q → HasFact p s nodes n b r
      → Asks₃ (FactsIn p s nodes a q b r)
  asks_facts {a} {b} (P, xs, r) f g = (P, get_or xs a.node no_node, get_or xs b.node no_node, record { first = f P xs r; second = g P xs r })

  -- fact i of a list of node j
  pub has_fact :
      {j list count : ℕ} → j < n → Promises₃ (NodeOf p nodes j) (λ (t : List ℕ) (P : Protocol) (x : Node). count ≡ length (facts_of P list x))
      → (i : ℕ) → i < count → HasFact p s nodes n (record { node = j; list = list; number = i }) want.All
  has_fact {j} l counted i m P xs r =
      let h = node_in r.stand j l in
      record {
        node = h;
        right = all_inside (NodeRight P) no_node xs r.right j (omega (arith, r.stand.count));
        listed = omega (arith, counted s P (get_or xs j no_node) h);
        has = tt;
      }

  -- argument i of a fact
  pub has_one :
      {a : FactId} {count : ℕ} → HasFact p s nodes n a want.All
      → Promises₃ (ListedFact p nodes a) (λ (t : List ℕ) (P : Protocol) (x : Node). count ≡ length (fact_at P a.list a.number x).terms)
      → (i : ℕ) → i < count → HasFact p s nodes n a (want.One i)
  has_one {a} f counted i m P xs r =
      let g = f P xs r in
      record {
        node = g.node;
        right = g.right;
        listed = g.listed;
        has = omega (arith, counted s P (get_or xs a.node no_node) (fact_listed g));
      }

-- room stays room
pub room_kept : (out out' : List ℕ) (o : ℕ) → length out' ≡ length out → Room out o → Room out' o
room_kept out out' o same r = record { enough = omega (arith, r.enough); short = omega (arith, r.short) }

-- room for two facts is room for one from the start
pub room_start : {out : List ℕ} → Room out fact_room → Room out 0
room_start r = record { enough = omega (arith, r.enough); short = r.short }
