-- "Written out, the rewriting is a machine that .. is fed the nodes of a step list or graph in file order, .. and no edges."
use Rattle.std.specs.Prelude.{◌≡◌, Bool, false, cond, not, ◌||◌, List, [], ◌∷◌, ◌++◌, ℕ, suc, ◌+◌, ◌-◌, ltb, leb, eqb}
use Rattle.std.specs.Prelude.{Option, Some, None}
use Rattle.lists.specs.Lists.{count_by, any_by}
use Rattle.rewriting.specs.Facts.{Facts, count, linears, persistents}
use Rattle.rewriting.specs.Graph.{Node, name_of}
-- Where it stops, and what it leaves.
pub mod Laws

-- "Its state is a bag of linear facts, a set of persistent ones and the names made so far": the bag is how often each
-- fact stands in it.
pub record State (Fact : Type 0) : Type 0 where
  pub bag : Fact → ℕ
  pub set : Fact → Bool
  pub made : List ℕ

-- "all empty before node 1".
abbrev pub start : {Fact : Type 0} → State Fact
start = record { bag = λ f. 0; set = λ f. false; made = [] }

-- The machine goes through all nodes, or the node of a number fails: "A failed node ends it."
pub data Outcome (Fact : Type 0) : Type 0 where
  ran : State Fact → Outcome Fact
  failed : ℕ → Outcome Fact

-- "its name is made already".
abbrev pub made_already : List ℕ → Option ℕ → Bool
made_already made None = false
made_already made (Some m) = leb 1 (count_by (eqb m) made)

module _ (F : Facts) where
  -- "a persistent premise is not in the set", or "a linear fact stands more often among its premises than in the bag".
  abbrev pub missing : State F.Fact → List F.Fact → F.Fact → Bool
  missing s ps p = cond (F.linear p) (ltb (s.bag p) (count F p ps)) (not (s.set p))

  abbrev pub lacks : State F.Fact → List F.Fact → Bool
  lacks s ps = any_by (missing s ps) ps

  -- "A node fails if a persistent premise is not in the set, if a linear fact stands more often among its premises than in
  -- the bag, or if it is of rule 0 and its name is made already."
  abbrev pub fails : State F.Fact → Node F.Fact → Bool
  fails s x = lacks s x.premises || made_already s.made x.makes

  -- "Otherwise each linear fact leaves the bag exactly as often as it stands among the node's premises. Then its conclusions
  -- enter, linear ones as often as listed, persistent ones into the set, and rule 0 adds its name."
  abbrev pub after : State F.Fact → Node F.Fact → State F.Fact
  after s x = record {
    bag = λ f. s.bag f - count F f (linears F x.premises) + count F f (linears F x.conclusions);
    set = λ f. s.set f || leb 1 (count F f (persistents F x.conclusions));
    made = s.made ++ name_of x.makes;
  }

  -- "Each node gets the state that the one before left; nothing else changes it." The nodes are numbered from `k`.
  abbrev pub run_from : ℕ → State F.Fact → List (Node F.Fact) → Outcome F.Fact
  run_from k s [] = ran s
  run_from k s (x ∷ xs) = cond (fails s x) (failed k) (run_from (suc k) (after s x) xs)

  abbrev pub run : List (Node F.Fact) → Outcome F.Fact
  run nodes = run_from 1 start nodes

  -- "The nodes are a run exactly when none fails; no nodes at all are one."
  abbrev pub IsRun : List (Node F.Fact) → Type 0
  IsRun nodes = (s : State F.Fact) × (run nodes ≡ ran s)
