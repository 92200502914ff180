-- What a property means. "Quantifiers range over all messages and whole numbers." Of messages only an equality and the public names are
-- used; of times only that they hold the node numbers, in their order.
use Rattle.std.specs.Prelude.{◌≡◌, Bool, ◌⊎◌, List, [], ◌∷◌, ◌++◌, map, ℕ, zero, suc, ◌<◌}
use Rattle.lists.specs.Lists.{◌∈◌, nth}
use Rattle.lists.specs.Reflects.{Reflects}
use Rattle.lists.specs.Pairs.{Pairs}
use Rattle.steps.specs.Facts.Messages.{or_none}
use Rattle.property.specs.Formula.{Sort, msg, tmp, Term, var, public, Pattern, Atom, equal, before, together, action, Formula}
use Rattle.property.specs.Formula.{absurdity, is, isnt, both, either, exists, every}
-- values that are alike; equal messages change nothing
pub mod Alike
pub mod Invariant

-- Messages: an equality, a test that decides it, and the public names.
pub record Messages : Type 1 where
  pub Msg : Type 0
  pub Same : Msg → Msg → Type 0
  pub name : ℕ → Msg
  pub same : Msg → Msg → Bool
  pub decides : (a b : Msg) → Reflects (Same a b) (same a b)
  pub itself : (a : Msg) → Same a a
  pub turned : {a b : Msg} → Same a b → Same b a
  pub joined : {a b c : Msg} → Same a b → Same b c → Same a c

-- Times: ordered numbers that hold the node numbers in their order, such as the naturals or the integers.
pub record Times : Type 1 where
  pub Time : Type 0
  pub node : ℕ → Time
  pub Before : Time → Time → Type 0
  pub alike : Time → Time → Bool
  pub decides : (a b : Time) → Reflects (a ≡ b) (alike a b)
  pub apart : {m n : ℕ} → node m ≡ node n → m ≡ n
  pub earlier : {m n : ℕ} → m < n → Before (node m) (node n)
  pub earlier_back : {m n : ℕ} → Before (node m) (node n) → m < n

-- the value of a variable: a message or a time
pub data Value (A B : Type 0) : Type 0 where
  message : A → Value A B
  time : B → Value A B

-- a fact of a trace; an entry: a fact and the node that has it
pub record Fact (A : Type 0) : Type 0 where
  pub symbol : ℕ
  pub messages : List A

pub record Entry (A : Type 0) : Type 0 where
  pub node : ℕ
  pub fact : Fact A

-- "The trace gives each node number, from 1, the actions of that node, perhaps none."
abbrev pub Trace : Type 0 → Type 0
Trace A = List (List (Fact A))

-- "other numbers have none"
abbrev pub actions_at : {A : Type 0} → Trace A → ℕ → List (Fact A)
actions_at tr k = or_none (nth tr k)

-- what a variable stands for: the value of that number, and d where it is missing or of the other sort
module _ {A B : Type 0} where
  abbrev pub message_at : A → List (Value A B) → ℕ → A
  message_at d [] x = d
  message_at d (message m ∷ v) zero = m
  message_at d (time t ∷ v) zero = d
  message_at d (y ∷ v) (suc x) = message_at d v x

  abbrev pub time_at : B → List (Value A B) → ℕ → B
  time_at d [] x = d
  time_at d (message m ∷ v) zero = d
  time_at d (time t ∷ v) zero = t
  time_at d (y ∷ v) (suc x) = time_at d v x

  abbrev pub sort_of : Value A B → Sort
  sort_of (message m) = msg
  sort_of (time t) = tmp

  abbrev pub sorts_of : List (Value A B) → List Sort
  sorts_of v = map sort_of v

-- a term's message and a pattern's fact, under values
module _ (M : Messages) {B : Type 0} where
  abbrev pub term_under : List (Value M.Msg B) → Term → M.Msg
  term_under v (var x) = message_at (M.name 0) v x
  term_under v (public n) = M.name n

  abbrev pub fact_under : List (Value M.Msg B) → Pattern → Fact M.Msg
  fact_under v g = record { symbol = g.symbol; messages = map (term_under v) g.terms }

-- "equal facts count as the same fact": the same symbol, and equal messages one by one
module _ (M : Messages) where
  abbrev pub SameFact : Fact M.Msg → Fact M.Msg → Type 0
  SameFact f e = (f.symbol ≡ e.symbol) × Pairs M.Same f.messages e.messages

module _ (M : Messages) (S : Times) (tr : Trace M.Msg) where
  -- the values of the variables in scope, the outermost first
  abbrev pub Valuation : Type 0
  Valuation = List (Value M.Msg S.Time)

  -- the node of that number has that action
  abbrev pub IsEntry : Entry M.Msg → Type 0
  IsEntry e = e.fact ∈ actions_at tr e.node

  -- the pattern and its time variable i are that entry's fact and node
  abbrev pub Matches : Valuation → Pattern → ℕ → Entry M.Msg → Type 0
  Matches v g i e = (time_at (S.node 0) v i ≡ S.node e.node) × SameFact M (fact_under M v g) e.fact

  -- "A fact is an action at a time when the node of that number has an equal one; other numbers have none."
  abbrev pub Occurs : Valuation → Pattern → ℕ → Type 0
  Occurs v g i = (e : Entry M.Msg) × IsEntry e × Matches v g i e

  abbrev pub AtomHolds : Valuation → Atom → Type 0
  AtomHolds v (equal t u) = M.Same (term_under M v t) (term_under M v u)
  AtomHolds v (before i j) = S.Before (time_at (S.node 0) v i) (time_at (S.node 0) v j)
  AtomHolds v (together i j) = time_at (S.node 0) v i ≡ time_at (S.node 0) v j
  AtomHolds v (action g i) = Occurs v g i

  -- "Exists means guard and body; for all means no guard, or body."
  abbrev pub Holds : Valuation → Formula → Type 0
  Holds v absurdity = ⊥
  Holds v (is a) = AtomHolds v a
  Holds v (isnt a) = ¬ AtomHolds v a
  Holds v (both f g) = Holds v f × Holds v g
  Holds v (either f g) = Holds v f ⊎ Holds v g
  Holds v (exists s g i f) = (w : Valuation) × (sorts_of w ≡ s) × Occurs (v ++ w) g i × Holds (v ++ w) f
  Holds v (every s g i f) = (w : Valuation) → sorts_of w ≡ s → (¬ Occurs (v ++ w) g i) ⊎ Holds (v ++ w) f
