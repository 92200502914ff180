-- The classes of arguments: places with the same canonical form get the same number.
use Rattle.std.specs.Prelude.{Option, Some, None}
use Rattle.std.specs.Prelude.{ℕ, suc, ◌*◌, ◌/◌, ◌%◌, ◌+◌, ◌≤◌, ◌<◌, List, ◌↔◌, ◌≡◌, length, get_or}
use Rattle.term.specs.Term.{public, Term, leaf}
use Rattle.message.specs.Canon.{canon}
use Rattle.protocol.specs.Protocol.{Fact, Protocol, no_fact}
use Rattle.steps.specs.Nodes.{Node}
use Rattle.steps.specs.Values.Parts.{no_term}
use Rattle.trace.specs.Tables.{base, stride, actions_in}
use Rattle.trace.specs.Entries.{Listed, ListedAll}
use Rattle.trace.specs.Chains.{InChain, Falls, Classed}
use Rattle.trace.specs.Numbers.{NumberedTo}
-- two places, and the chain of one
pub mod Walk
-- one place more
pub mod Places
-- all of them
pub mod Exact

-- ── the argument at a place, and its canonical form ──
module _ (P : Protocol) (xs : List Node) where
  abbrev pub action_at : ℕ → Fact
  action_at q = get_or (actions_in P xs) (q / stride) no_fact

  abbrev pub term_at : ℕ → Term
  term_at q = get_or (action_at q).terms (q % stride) no_term

  unfoldable pub key_at : ℕ → Term
  key_at q = canon (term_at q)

  pub record IsPlace (q : ℕ) : Type 0 where
    pub entry : q / stride < length (actions_in P xs)
    pub argument : q % stride < length (action_at q).terms

-- ── the chain of a place ──
-- every place in it is an argument's, and before q
pub record Walkable (p s nodes entries chains : List ℕ) (head q : ℕ) (P : Protocol) (xs : List Node) : Type 0 where
  pub listed : Listed p s nodes entries P xs
  pub place : IsPlace P xs q
  pub first : (r : ℕ) → head ≡ suc r → IsPlace P xs r
  pub links : (i r : ℕ) → get_or chains i 0 ≡ suc r → IsPlace P xs r
  pub low : head ≤ q
  pub falls : Falls chains

-- a place of the chain, or none where none has the same form
pub record Earlier (key : ℕ → Term) (chains : List ℕ) (head q : ℕ) (o : Option ℕ) : Type 0 where
  pub nowhere : o ≡ None → (l : ℕ) → InChain chains head l → key l ≡ key q → ⊥
  pub somewhere : (r : ℕ) → o ≡ Some r → InChain chains head r × (key r ≡ key q)

-- those before h in the chain have other forms
pub record Walking (P : Protocol) (xs : List Node) (chains : List ℕ) (head q h : ℕ) : Type 0 where
  pub places : (r : ℕ) → h ≡ suc r → IsPlace P xs r
  pub low : h ≤ q
  pub back : (l : ℕ) → InChain chains h l → InChain chains head l
  pub left : (l : ℕ) → InChain chains head l → key_at P xs l ≡ key_at P xs q → InChain chains h l

-- ── place by place ──
-- the first numbers of all places, and the classes of those before m
pub record Classing (p s nodes entries classes chains : List ℕ) (m : ℕ) (raw : List ℕ) (P : Protocol) (xs : List Node) : Type 0 where
  pub listed : Listed p s nodes entries P xs
  pub numbered : NumberedTo raw (stride * length (actions_in P xs)) P xs
  pub less : m < stride * length (actions_in P xs)
  pub classed : Classed (key_at P xs) raw classes chains m

-- ── all places ──
pub record Ready (p s nodes entries raw : List ℕ) (total : ℕ) (P : Protocol) (xs : List Node) : Type 0 where
  pub all : ListedAll p s nodes entries total P xs
  pub numbered : NumberedTo raw (stride * total) P xs

-- equal numbers exactly for equal forms, and base + n for the public name n: of the places before m
pub record ClassesAre (classes : List ℕ) (m : ℕ) (P : Protocol) (xs : List Node) : Type 0 where
  pub same :
      (q r : ℕ) → q < m → r < m → IsPlace P xs q → IsPlace P xs r → (get_or classes q 0 ≡ get_or classes r 0) ↔ (key_at P xs q ≡ key_at P xs r)
  pub named : (q n : ℕ) → q < m → IsPlace P xs q → (get_or classes q 0 ≡ base + n) ↔ (key_at P xs q ≡ leaf public n)
