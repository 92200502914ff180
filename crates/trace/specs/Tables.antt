-- The trace in numbers: for each node where its actions begin, for each action its symbol, for each argument of it its class.
use Rattle.std.specs.Prelude.{ℕ, ◌+◌, ◌*◌, ◌≤◌, ◌<◌, List, ◌↔◌, ◌≡◌, length, get_or}
use Rattle.std.specs.Prelude.{Option}
use Rattle.lists.specs.Joined.{joined, before}
use Rattle.term.specs.Arity.{arity, tag_arities}
use Rattle.message.specs.Promise.{Message, SameMessage, public_name}
use Rattle.protocol.specs.Figures.{action_list, most_facts, most_fact_arity}
use Rattle.protocol.specs.Protocol.{Fact, Protocol}
use Rattle.steps.specs.Nodes.{Node, no_node, most_nodes}
use Rattle.steps.specs.Facts.{facts_of}
use Rattle.facts.specs.Calls.{fact_at, argument_at}
-- the tables that the code makes
pub mod Made
-- the trace that is read off them
pub mod Trace

-- ── sizes ──
-- n nodes have so many actions at most
abbrev pub actions_of : ℕ → ℕ
actions_of n = most_facts * n

-- the actions of all nodes, and the places of their arguments
abbrev pub most_actions : ℕ
most_actions = actions_of most_nodes

-- argument j of action e has the place stride * e + j
abbrev pub stride : ℕ
stride = most_fact_arity

abbrev pub place_count : ℕ
place_count = stride * most_actions

-- the number of public name 0: above all places and all marks
abbrev pub base : ℕ
base = 65536

-- ── the trace ──
module _ (P : Protocol) where
  abbrev pub ar : ℕ → Option ℕ
  ar = arity (tag_arities P.functions)

  -- "The trace gives each node number, from 1, the actions of that node, perhaps none"
  abbrev pub actions : Node → List Fact
  actions = facts_of P action_list

  -- the actions of the nodes, one behind the other
  abbrev pub actions_in : List Node → List Fact
  actions_in xs = joined actions xs

  module _ (xs : List Node) where
    -- how many actions the nodes before node k have, from 0
    abbrev pub actions_before : ℕ → ℕ
    actions_before k = before actions xs k

    -- argument j of action i of node k is the message m, all from 0
    pub record ArgumentIs (k i j : ℕ) (m : Message ar) : Type 0 where
      pub node : k < length xs
      pub action : i < length (actions (get_or xs k no_node))
      pub argument : j < length (fact_at P action_list i (get_or xs k no_node)).terms
      pub is : m.term ≡ argument_at P action_list i j (get_or xs k no_node)

    -- the entry of action i of node k, and the place of argument j of it
    abbrev pub entry_of : ℕ → ℕ → ℕ
    entry_of k i = actions_before k + i

    abbrev pub place_of : ℕ → ℕ → ℕ → ℕ
    place_of k i j = stride * entry_of k i + j

-- ── what the tables say of it ──
-- for each node how many actions stand before its own, and behind the last how many there are
pub record Starts (starts : List ℕ) (P : Protocol) (xs : List Node) : Type 0 where
  pub begins : (k : ℕ) → k ≤ length xs → get_or starts k 0 ≡ actions_before P xs k

-- for each action its symbol; for each argument a number: equal numbers exactly when the equations make them equal, and base + n
-- exactly for the public name n
pub record Tables (starts symbols classes : List ℕ) (P : Protocol) (xs : List Node) : Type 0 where
  pub begun : Starts starts P xs
  pub symbol :
      (k i : ℕ) → k < length xs → i < length (actions P (get_or xs k no_node))
      → get_or symbols (entry_of P xs k i) 0 ≡ (fact_at P action_list i (get_or xs k no_node)).symbol
  pub same :
      {k i j k' i' j' : ℕ} {m m' : Message (ar P)} → ArgumentIs P xs k i j m → ArgumentIs P xs k' i' j' m'
      → (get_or classes (place_of P xs k i j) 0 ≡ get_or classes (place_of P xs k' i' j') 0) ↔ SameMessage (ar P) m m'
  pub named :
      {k i j : ℕ} {m : Message (ar P)} → ArgumentIs P xs k i j m → (n : ℕ)
      → (get_or classes (place_of P xs k i j) 0 ≡ base + n) ↔ SameMessage (ar P) m (public_name (ar P) n)
