-- The rewriting by a statement of equality, whatever decides it: which facts a node takes from the state, and what it leaves.
use Rattle.std.specs.Prelude.{◌≡◌, Bool, true, false, not, List, [], ◌∷◌, ◌++◌, ℕ}
use Rattle.std.specs.Prelude.{Some}
use Rattle.lists.specs.Lists.{◌∈◌, keep_by}
use Rattle.lists.specs.Any.{Any}
use Rattle.rewriting.specs.Graph.{Node, name_of}

-- "Its state is a bag of linear facts, a set of persistent ones and the names made so far": facts as they entered.
pub record Contents (Fact : Type 0) : Type 0 where
  pub bag : List Fact
  pub set : List Fact
  pub made : List ℕ

-- "all empty before node 1".
abbrev pub empty : {Fact : Type 0} → Contents Fact
empty = record { bag = []; set = []; made = [] }

module _ {Fact : Type 0} (Same : Fact → Fact → Type 0) (linear : Fact → Bool) where
  -- One fact that is the same as `p` leaves the bag: "equal facts count as the same fact".
  pub data Leaves (p : Fact) : List Fact → List Fact → Type 0 where
    first : {g : Fact} {bag : List Fact} → Same p g → Leaves p (g ∷ bag) bag
    later : {g : Fact} {bag rest : List Fact} → Leaves p bag rest → Leaves p (g ∷ bag) (g ∷ rest)

  -- "A step needs its persistent premises in the state, and its linear ones often enough. It removes the linear ones only": "each linear
  -- fact leaves the bag exactly as often as it stands among the node's premises", and a rest stays.
  pub data Takes (set : List Fact) : List Fact → List Fact → List Fact → Type 0 where
    nothing : {bag : List Fact} → Takes set [] bag bag
    finds : {p : Fact} {ps bag rest : List Fact} → linear p ≡ false → Any (Same p) set → Takes set ps bag rest → Takes set (p ∷ ps) bag rest
    removes :
        {p : Fact} {ps bag less rest : List Fact} → linear p ≡ true → Leaves p bag less → Takes set ps less rest
        → Takes set (p ∷ ps) bag rest

  -- "Then its conclusions enter, linear ones as often as listed, persistent ones into the set, and rule 0 adds its name."
  abbrev pub entered : Contents Fact → Node Fact → List Fact → Contents Fact
  entered s x rest = record {
    bag = rest ++ keep_by linear x.conclusions;
    set = s.set ++ keep_by (λ f. not (linear f)) x.conclusions;
    made = s.made ++ name_of x.makes;
  }

  -- "Each node gets the state that the one before left; nothing else changes it." No node fails: its premises are in the state, and its name
  -- is not "made already".
  pub data Reaches : Contents Fact → List (Node Fact) → Contents Fact → Type 0 where
    done : {s : Contents Fact} → Reaches s [] s
    step :
        {s t : Contents Fact} {x : Node Fact} {xs : List (Node Fact)} {rest : List Fact} → Takes s.set x.premises s.bag rest
        → ((m : ℕ) → x.makes ≡ Some m → m ∈ s.made → ⊥) → Reaches (entered s x rest) xs t → Reaches s (x ∷ xs) t

  -- "The nodes are a run exactly when none fails; no nodes at all are one."
  abbrev pub Rewrites : List (Node Fact) → Type 0
  Rewrites nodes = (t : Contents Fact) × Reaches empty nodes t
