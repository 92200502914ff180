-- The nodes of a step list or graph: their bytes, and their reading, "front to back for 3 and 6".
use Rattle.std.specs.Prelude.{ℕ, zero, suc, ◌≤◌, ◌<◌, List, [], ◌∷◌, ◌++◌, Bool, true, false, ◌≡◌, length, eqb}
use Rattle.std.specs.Prelude.{Option, Some, None}
use Rattle.lists.specs.Choice.{pick}
use Rattle.number.specs.Groups.{groups, number_limit}
use Rattle.number.specs.Reading.{Read, got, fault, and_then, read_number, below, many}
use Rattle.number.specs.Layout.{flat, listed}
use Rattle.lists.specs.All.{All}
use Rattle.term.specs.Term.{Term, encode}
use Rattle.term.specs.Arity.{tag_arities}
use Rattle.term.specs.Reader.{term}
use Rattle.term.specs.Reader.Exact.{GoodBelow}
use Rattle.protocol.specs.Protocol.{Rule, Protocol}
use Rattle.rules.specs.Numbered.{rule_of}
-- what is within the limits reads back from its bytes, and what reads is within them and stands there
pub mod Exact
-- a larger limit of numbers
pub mod Wider
-- "no such rule", said exactly
pub mod Unknown
-- the reading depends on the bytes up to the end of the list alone
pub mod Prefix
-- what code answers of nodes, and what it leaves in their table
pub mod Code
pub mod Filling

-- ── nodes ──
-- "each a rule number and one value per variable"
pub record Node : Type 0 where
  pub rule : ℕ
  pub values : List Term

abbrev pub node_of_lem : ℕ → List Term → Node
node_of_lem r vs = record { rule = r; values = vs }

-- where a list has no node of some number
abbrev pub no_node : Node
no_node = node_of_lem 0 []

-- "count of nodes (512)"
abbrev pub most_nodes : ℕ
most_nodes = 512

-- ── bytes ──
abbrev pub encode_node : Node → List ℕ
encode_node x = groups x.rule ++ flat encode x.values

-- the count, and then the nodes
abbrev pub encode_nodes : List Node → List ℕ
encode_nodes xs = listed encode_node xs

-- ── what a reading for 3 and 6 answers: what was read and the place behind it, a layout fault, or the node that has no such rule ──
pub data Reading (A : Type 0) : Type 0 where
  read : A → ℕ → Reading A
  broken : Reading A
  no_rule : ℕ → Reading A

module _ {A B : Type 0} where
  -- what follows is read only behind what was read, so that the first fault of the file is told
  abbrev pub onward : Reading A → (A → ℕ → Reading B) → Reading B
  onward (read x e) f = f x e
  onward broken f = broken
  onward (no_rule k) f = no_rule k

  -- a part of the file that names no rule
  abbrev pub plainly : Read A → (A → ℕ → Reading B) → Reading B
  plainly (got x e) f = f x e
  plainly fault f = broken

-- leftover bytes are a layout fault
abbrev pub all_of : {A : Type 0} → List ℕ → Reading A → Reading A
all_of file r = onward r (λ x e. pick (eqb e (length file)) (read x e) broken)

abbrev pub absent : {A : Type 0} → Option A → Bool
absent None = true
absent (Some x) = false

-- numbers below `limit`
module _ (limit : ℕ) (p : Protocol) where
  -- a node with a rule of that number, one value per variable of it, of any length
  pub record NodeBelow (x : Node) : Type 0 where
    pub is : Rule
    pub known : rule_of p x.rule ≡ Some is
    pub range : x.rule < limit
    pub takes : length x.values ≡ length is.sorts
    pub each : All (GoodBelow limit (tag_arities p.functions)) x.values

  -- "count of nodes (512)"
  pub record NodesBelow (xs : List Node) : Type 0 where
    pub few : length xs ≤ most_nodes
    pub each : All NodeBelow xs

-- with the numbers that a file can hold
abbrev pub NodeWithin : Protocol → Node → Type 0
NodeWithin = NodeBelow number_limit

abbrev pub NodesWithin : Protocol → List Node → Type 0
NodesWithin = NodesBelow number_limit

module _ (p : Protocol) where
  -- "no such rule": a number was read, and no rule has it
  abbrev pub unknown : Read ℕ → Bool
  unknown (got r e) = absent (rule_of p r)
  unknown fault = false

  module _ (file : List ℕ) where
    abbrev pub values : ℕ → Option Rule → ℕ → Read Node
    values r None at = fault
    values r (Some u) at = and_then (many (term file (tag_arities p.functions)) (length u.sorts) at) (λ vs e. got (node_of_lem r vs) e)

    -- a node of an existing rule
    unfoldable pub node : ℕ → Read Node
    node at = and_then (read_number file at) (λ r e. values r (rule_of p r) e)

    -- "front to back for 3 and 6", and in one node the rule number before its values: n nodes, the first of them of number k
    unfoldable pub nodes_from : ℕ → ℕ → ℕ → Reading (List Node)
    nodes_from k zero at = read [] at
    nodes_from k (suc n) at =
        pick (unknown (read_number file at)) (no_rule k)
        (plainly (node at) (λ x e. onward (nodes_from (suc k) n e) (λ xs f. read (x ∷ xs) f)))

    -- the count, 512 at most, and the nodes from 1 on
    unfoldable pub node_list : ℕ → Reading (List Node)
    node_list at = plainly (below file (suc most_nodes) at) (λ n e. nodes_from 1 n e)

    -- a step list: the nodes, and nothing behind them
    unfoldable pub steps : Reading (List Node)
    steps = all_of file (node_list 0)
