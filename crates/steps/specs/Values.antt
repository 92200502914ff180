-- The values of a node and the terms that they fill: what fits, and causes 7 and 8.
use Rattle.std.specs.Prelude.{ℕ, zero, suc, ◌≤◌, ◌<◌, List, [], ◌∷◌, ◌≡◌}
use Rattle.std.specs.Prelude.{Some}
use Rattle.std.specs.Prelude.{slice_get}
use Rattle.term.specs.Sizes.{most_symbols}
use Rattle.term.specs.Term.{public, fresh, Term, leaf, symbols}
use Rattle.lists.specs.Lists.{◌∈◌, nth}
use Rattle.rewriting.specs.Table.{Row, row}
use Rattle.message.specs.Canonical.{Canonical}
use Rattle.message.specs.Substitution.{sub, Ground}
use Rattle.protocol.specs.Protocol.{Fact, Rule, Protocol}
use Rattle.rules.specs.Numbered.{rule_of}
use Rattle.steps.specs.Nodes.{Node}
use Rattle.steps.specs.Facts.{value_at}
-- the tests, and that they decide what fits
pub mod Tests
pub mod Laws
-- what code answers of a value
pub mod Code
-- the loop over the values of a node
pub mod Loops
-- a pass over the nodes by their numbers
pub mod Scan
-- the symbols of filled-in terms, added up
pub mod Weights
-- a test of all terms of a fact
pub mod Parts
-- a rule's terms with a node's values filled in
pub mod Filled
-- the passes of 7 and 8 find their least node
pub mod Passes

-- ── what fits ──
-- "each sort (0 message, 1 fresh, 2 public)": a fresh name has tag 2, a public one tag 1
abbrev pub OfSort : ℕ → Term → Type 0
OfSort zero v = Unit {0}
OfSort (suc zero) v = (n : ℕ) × (v ≡ leaf fresh n)
OfSort (suc (suc zero)) v = (n : ℕ) × (v ≡ leaf public n)
OfSort (suc (suc (suc k))) v = ⊥

abbrev pub most_in_value : ℕ
most_in_value = 128

abbrev pub most_filled_in : ℕ
most_filled_in = most_symbols

-- not so: "value not canonical, holds a variable, wrong sort, or over 128 symbols", 7
pub record ValueFits (sort : ℕ) (v : Term) : Type 0 where
  pub is_ground : Ground v
  pub sorted : OfSort sort v
  pub canonical : Canonical v
  pub short : symbols v ≤ most_in_value

-- variable i of a node has this sort and this value
pub record ValueAt (u : Rule) (x : Node) (i sort : ℕ) (v : Term) : Type 0 where
  pub sorted : slice_get u.sorts i ≡ Some sort
  pub valued : slice_get x.values i ≡ Some v

-- a term of a rule's premises, actions or conclusions
pub record TermOf (u : Rule) (t : Term) : Type 0 where
  pub facts : List Fact
  pub fact : Fact
  pub of_rule : facts ∈ u.lists
  pub of_facts : fact ∈ facts
  pub of_fact : t ∈ fact.terms

-- the symbols of a term filled in with the values, before normalising
abbrev pub filled_symbols : List Term → Term → ℕ
filled_symbols vs t = symbols (sub (value_at vs) t)

module _ (p : Protocol) where
  -- a node whose values fit and whose filled-in terms are small enough
  pub record NodeRight (x : Node) : Type 0 where
    pub is : Rule
    pub known : rule_of p x.rule ≡ Some is
    pub fits : (i sort : ℕ) (v : Term) → ValueAt is x i sort v → ValueFits sort v
    pub small : (t : Term) → TermOf is t → filled_symbols x.values t ≤ most_filled_in

  module _ (xs : List Node) where
    -- 7, node k
    pub record WrongValue (k : ℕ) : Type 0 where
      pub node : Node
      pub is : Rule
      pub stands : nth xs k ≡ Some node
      pub known : rule_of p node.rule ≡ Some is
      pub variable_is : ℕ
      pub sort : ℕ
      pub value : Term
      pub there : ValueAt is node variable_is sort value
      pub wrong : ValueFits sort value → ⊥

    -- "filled-in term over 256 symbols before normalising", 8, node k
    pub record TermLong (k : ℕ) : Type 0 where
      pub node : Node
      pub is : Rule
      pub stands : nth xs k ≡ Some node
      pub known : rule_of p node.rule ≡ Some is
      pub term : Term
      pub there : TermOf is term
      pub long : most_filled_in < filled_symbols node.values term

  -- ── the rows of 7 and 8 over all nodes ──
  abbrev pub value_rows : List Node → List Row
  value_rows xs = row 7 (WrongValue xs) ∷ row 8 (TermLong xs) ∷ []
