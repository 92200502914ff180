-- The actions of all nodes by the number of their entry: which node has it, and which of its actions it is.
use Rattle.std.specs.Prelude.{ℕ, ◌/◌, ◌%◌, ◌≤◌, ◌<◌, List, ◌≡◌, length, get_or}
use Rattle.protocol.specs.Figures.{action_list, most_facts}
use Rattle.protocol.specs.Protocol.{Protocol, no_fact}
use Rattle.steps.specs.Nodes.{Node, no_node}
use Rattle.steps.specs.Causes.Good.{RightNodes}
use Rattle.facts.specs.declared.nodes.FactId.{FactId}
use Rattle.facts.specs.Calls.{fact_at}
use Rattle.trace.specs.Tables.{actions, actions_in, actions_before, Starts}
-- how they are filled
pub mod Laws
-- how symbols take their places
pub mod Symbols

-- ── an entry's action ──
-- most_facts * node + number
abbrev pub action_id : ℕ → FactId
action_id v = record { node = v / most_facts; list = action_list; number = v % most_facts }

-- action i of node k has the entry e
pub record ActionIs (P : Protocol) (xs : List Node) (k i e : ℕ) : Type 0 where
  pub node : k < length xs
  pub listed : i < length (actions P (get_or xs k no_node))
  pub fact : fact_at P action_list i (get_or xs k no_node) ≡ get_or (actions_in P xs) e no_fact

abbrev pub EntryIs : Protocol → List Node → ℕ → ℕ → Type 0
EntryIs P xs v e = ActionIs P xs (v / most_facts) (v % most_facts) e

-- right nodes, of any file; the first m entries
pub record Entered (p nodes entries : List ℕ) (m : ℕ) (s : List ℕ) (P : Protocol) (xs : List Node) : Type 0 where
  pub right : RightNodes p s nodes (length xs) P xs
  pub each : (e : ℕ) → e < m → EntryIs P xs (get_or entries e 0) e

-- all of them
pub record Listed (p s nodes entries : List ℕ) (P : Protocol) (xs : List Node) : Type 0 where
  pub right : RightNodes p s nodes (length xs) P xs
  pub long : length (actions_in P xs) ≤ length entries
  pub each : (e : ℕ) → e < length (actions_in P xs) → EntryIs P xs (get_or entries e 0) e

-- and how many there are
pub record ListedAll (p s nodes entries : List ℕ) (total : ℕ) (P : Protocol) (xs : List Node) : Type 0 where
  pub listed : Listed p s nodes entries P xs
  pub count : total ≡ length (actions_in P xs)

-- of any file
abbrev pub EntriesOf : List ℕ → List ℕ → List ℕ → ℕ → List ℕ → Protocol → List Node → Type 0
EntriesOf p nodes entries total s P xs = ListedAll p s nodes entries total P xs

-- the symbols of the first m actions
pub record SymbolsTo (symbols : List ℕ) (m : ℕ) (P : Protocol) (xs : List Node) : Type 0 where
  pub each : (e : ℕ) → e < m → get_or symbols e 0 ≡ (get_or (actions_in P xs) e no_fact).symbol

-- ── node by node ──
-- the entries of the nodes before node k
pub record NodeEntered (p nodes entries : List ℕ) (k from : ℕ) (s : List ℕ) (P : Protocol) (xs : List Node) : Type 0 where
  pub entered : Entered p nodes entries from s P xs
  pub is : from ≡ actions_before P xs k

-- and there is a node k
pub record Begun (p nodes entries : List ℕ) (k from : ℕ) (s : List ℕ) (P : Protocol) (xs : List Node) : Type 0 where
  pub so_far : NodeEntered p nodes entries k from s P xs
  pub less : k < length xs

-- n right nodes, of any file
abbrev pub TableOf : List ℕ → List ℕ → ℕ → List ℕ → Protocol → List Node → Type 0
TableOf p nodes n s P xs = RightNodes p s nodes n P xs

-- where the actions of the nodes before node k begin
pub record Entering (p nodes starts entries : List ℕ) (k from : ℕ) (s : List ℕ) (P : Protocol) (xs : List Node) : Type 0 where
  pub so_far : NodeEntered p nodes entries k from s P xs
  pub starting : (j : ℕ) → j < k → get_or starts j 0 ≡ actions_before P xs j

pub record AllEntered (p nodes starts entries : List ℕ) (total : ℕ) (s : List ℕ) (P : Protocol) (xs : List Node) : Type 0 where
  pub begun : Starts starts P xs
  pub entered : Entered p nodes entries total s P xs
  pub all : total ≡ length (actions_in P xs)
