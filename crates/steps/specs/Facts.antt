-- The facts of a node, the name that it makes, the trace; when two facts are the same, and which are linear.
use Rattle.std.specs.Prelude.{ℕ, List, [], ◌∷◌, map, Bool, true, false, ◌&&◌, ◌≡◌, get_or, eqb}
use Rattle.std.specs.Prelude.{Option, Some, None}
use Rattle.protocol.specs.Figures.{action_list}
use Rattle.lists.specs.Choice.{pick}
use Rattle.octets.specs.Compare.{compare_bytes, is_equal}
use Rattle.term.specs.Term.{variable, public, fresh, Term, leaf, app, encode}
use Rattle.lists.specs.Lists.{nth}
use Rattle.message.specs.Equations.{Same}
use Rattle.message.specs.Substitution.{sub}
use Rattle.message.specs.Canon.{canon}
use Rattle.protocol.specs.Protocol.{Fact, Rule, Protocol, fact_of, list_of, fact_flags}
use Rattle.rules.specs.Numbered.{rule_of}
use Rattle.steps.specs.Nodes.{Node}
-- the same facts have the same symbol and equal messages; an equivalence
pub mod Laws
-- the facts of a node within the limits are well formed, and its terms without variables
pub mod Formed
-- the test of facts by the bytes of all their arguments, as code compares them
pub mod Bytes
-- how many a node has, and which symbols are linear
pub mod Counts
-- the facts of a node and the trace as messages
pub mod Messages

-- ── the facts of a node ──
-- the value of variable v; one without a value stays
abbrev pub value_at : List Term → ℕ → Term
value_at vs v = get_or vs v (leaf variable v)

abbrev pub filled_fact : List Term → Fact → Fact
filled_fact vs f = fact_of f.symbol (map (sub (value_at vs)) f.terms)

-- where there is a rule, its list of a number
abbrev pub filled_list : ℕ → List Term → Option Rule → List Fact
filled_list list vs None = []
filled_list list vs (Some u) = map (filled_fact vs) (list_of list u)

-- the number of a fresh name
abbrev pub fresh_number : Term → Option ℕ
fresh_number (leaf variable n) = None
fresh_number (leaf public n) = None
fresh_number (leaf fresh n) = Some n
fresh_number (app f ts) = None

module _ (p : Protocol) where
  -- "A node's facts are its rule's, with the node's values in place of the variables": 0 premises, 1 actions, 2 conclusions
  abbrev pub facts_of : ℕ → Node → List Fact
  facts_of list x = filled_list list x.values (rule_of p x.rule)

  -- "The trace gives each node number, from 1, the actions of that node, perhaps none ..; other numbers have none."
  abbrev pub actions_of : Option Node → List Fact
  actions_of None = []
  actions_of (Some x) = facts_of action_list x

  abbrev pub trace : List Node → ℕ → List Fact
  trace xs k = actions_of (nth xs k)

-- "Rule 0 makes Fr(fresh)": the name that a node makes, a node of rule 0 alone
abbrev pub made_name : Node → Option ℕ
made_name x = pick (eqb x.rule 0) (fresh_number (value_at x.values 0)) None

-- ── "equal facts count as the same fact" ──
-- one by one
abbrev pub Sames : (ℕ → Option ℕ) → List Term → List Term → Type 0
Sames ar [] [] = Unit {0}
Sames ar [] (u ∷ us) = ⊥
Sames ar (t ∷ ts) [] = ⊥
Sames ar (t ∷ ts) (u ∷ us) = Same ar t u × Sames ar ts us

-- the same symbol and equal messages
pub record SameFact (ar : ℕ → Option ℕ) (f g : Fact) : Type 0 where
  pub symbols : f.symbol ≡ g.symbol
  pub terms : Sames ar f.terms g.terms

-- by the bytes of the canonical forms; the three tests are opaque, so that no goal of a caller has canonical forms in it
unfoldable pub same_term : Term → Term → Bool
same_term t u = is_equal (compare_bytes (encode (canon t)) (encode (canon u)))

unfoldable pub same_terms : List Term → List Term → Bool
same_terms [] [] = true
same_terms [] (u ∷ us) = false
same_terms (t ∷ ts) [] = false
same_terms (t ∷ ts) (u ∷ us) = same_term t u && same_terms ts us

unfoldable pub same_fact : Fact → Fact → Bool
same_fact f g = eqb f.symbol g.symbol && same_terms f.terms g.terms

-- "Symbols 0 Fr, 1 In, 2 Out are linear, 3 K persistent", an own one as declared
abbrev pub is_linear : Protocol → Fact → Bool
is_linear p f = eqb (get_or (fact_flags p.symbols) f.symbol 0) 0
