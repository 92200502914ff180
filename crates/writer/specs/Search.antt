-- Looking for a source among the free conclusions, and entering those of a node: what is asked, and what is promised.
use Rattle.std.specs.Prelude.{Option, Some, None, ℕ, suc, ◌+◌, ◌*◌, ◌<◌, List, ◌++◌, Bool, ◌≡◌, length, get_or}
use Rattle.lists.specs.Scan.{Next}
use Rattle.rewriting.specs.Places.{Placed, placed}
use Rattle.protocol.specs.Figures.{most_facts, conclusion_list}
use Rattle.protocol.specs.Protocol.{Fact, Protocol}
use Rattle.steps.specs.Nodes.{Node, no_node}
use Rattle.steps.specs.Facts.{facts_of, same_fact}
use Rattle.steps.specs.Causes.Good.{RightNodes}
use Rattle.facts.specs.declared.nodes.FactId.{FactId}
use Rattle.facts.specs.Calls.{fact_at}
use Rattle.facts.specs.declared.marks.KeptFact.{KeptFact}
use Rattle.facts.specs.Kept.{Keeps}
use Rattle.writer.specs.Free.{Marked, entry_placed, free_in}
use Rattle.writer.specs.Free.Laws.{FirstAt, NoneTo}
-- the loops
pub mod Laws

-- the fact of a node
abbrev pub fact_in : Protocol → List Node → FactId → Fact
fact_in P xs a = fact_at P a.list a.number (get_or xs a.node no_node)

-- a free conclusion is the same fact
abbrev pub is_same : Protocol → List Node → FactId → Placed Fact → Bool
is_same P xs a t = same_fact (fact_in P xs a) t.fact

-- ── looking for a source of fact a, which is kept in the work slice ──
pub record Searching (p s nodes free : List ℕ) (a : FactId) (work : List ℕ) (k : KeptFact) (P : Protocol) (xs : List Node) : Type 0 where
  pub right : RightNodes p s nodes (length xs) P xs
  pub inside : a.node < length xs
  pub listed : a.number < length (facts_of P a.list (get_or xs a.node no_node))
  pub marked : Marked free (most_facts * a.node) P xs
  pub keeps : Keeps work k (fact_in P xs a)

-- the next entry of a mark, from a place on; or there is none before the end
abbrev pub NextMarked : List ℕ → ℕ → ℕ → ℕ → Option ℕ → Type 0
NextMarked free wanted from end (Some v) = Next free wanted from end v × (v < end)
NextMarked free wanted from end None = Next free wanted from end end

abbrev pub Found : List ℕ → FactId → Option ℕ → Protocol → List Node → Type 0
Found free a (Some v) P xs = FirstAt (entry_placed P xs) (is_same P xs a) free v (most_facts * a.node)
Found free a None P xs = NoneTo (entry_placed P xs) (is_same P xs a) free (most_facts * a.node)

-- ── entering the conclusions of node k ──
pub record AtNode (p s nodes : List ℕ) (k : ℕ) (free : List ℕ) (P : Protocol) (xs : List Node) : Type 0 where
  pub right : RightNodes p s nodes (length xs) P xs
  pub inside : k < length xs
  pub marked : Marked free (most_facts * k) P xs

pub record Entered (k : ℕ) (free free' : List ℕ) (P : Protocol) (xs : List Node) : Type 0 where
  pub marked : Marked free' (most_facts * (k + 1)) P xs
  pub more : free_in P xs free' (most_facts * (k + 1))
      ≡ free_in P xs free (most_facts * k) ++ placed (suc k) 1 (facts_of P conclusion_list (get_or xs k no_node))
