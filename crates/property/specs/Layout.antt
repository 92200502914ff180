-- The property file: its bytes, its reading. A formula is read with the levels that are left, so that a 17th level is a fault.
use Rattle.std.specs.Prelude.{ℕ, zero, suc, ◌+◌, ◌%◌, List, ◌++◌, Bool, true, false, length, get_or, ltb, leb, eqb}
use Rattle.lists.specs.Choice.{pick}
use Rattle.number.specs.Groups.{groups}
use Rattle.number.specs.Reading.{Read, got, fault, and_then, read_number, below, many, counted}
use Rattle.number.specs.Layout.{flat, listed}
use Rattle.term.specs.Tags.{variable_tag, public_tag}
use Rattle.protocol.specs.Figures.{message_sort}
use Rattle.property.specs.Figures.{false_tag, equal_tag, before_tag, same_time_tag, action_tag, and_tag, or_tag, exists_tag, every_tag, formula_tags}
use Rattle.property.specs.Figures.{most_new, time_sort, most_scope, most_nesting, term_tags}
use Rattle.property.specs.Formula.{Sort, msg, tmp, Term, var, public, Pattern, pattern_of, Atom, equal, before, together, action, Formula}
use Rattle.property.specs.Formula.{absurdity, is, isnt, both, either, exists, every}
-- what is within the limits reads back from its bytes, and what reads is within them and stands there
pub mod Parts
pub mod Exact

-- ── parts of a formula ──
-- "fact, time variable"
pub record Timed : Type 0 where
  pub pattern : Pattern
  pub time : ℕ

abbrev pub timed_of : Pattern → ℕ → Timed
timed_of g i = record { pattern = g; time = i }

-- "a count of new variables (8), each sort (0 message, 3 time), a guard fact, its time variable"
pub record Head : Type 0 where
  pub sorts : List Sort
  pub guard : Timed

abbrev pub head_of : List Sort → Timed → Head
head_of s g = record { sorts = s; guard = g }

-- odd tags assert an atom, even ones deny it
abbrev pub signed : Bool → Atom → Formula
signed true a = is a
signed false a = isnt a

abbrev pub asserts : ℕ → Bool
asserts tag = eqb (tag % 2) 1

-- "9 and, 10 or"
abbrev pub paired : Bool → Formula → Formula → Formula
paired true x y = both x y
paired false x y = either x y

-- "12 for all", 11 exists
abbrev pub quantified : Bool → Head → Formula → Formula
quantified true h x = every h.sorts h.guard.pattern h.guard.time x
quantified false h x = exists h.sorts h.guard.pattern h.guard.time x

-- ── bytes ──
abbrev pub encode_term : Term → List ℕ
encode_term (var x) = groups variable_tag ++ groups x
encode_term (public n) = groups public_tag ++ groups n

abbrev pub encode_sort : Sort → List ℕ
encode_sort msg = groups message_sort
encode_sort tmp = groups time_sort

abbrev pub encode_pattern : Pattern → List ℕ
encode_pattern g = groups g.symbol ++ flat encode_term g.terms

abbrev pub encode_timed : Timed → List ℕ
encode_timed g = encode_pattern g.pattern ++ groups g.time

abbrev pub encode_head : Head → List ℕ
encode_head h = listed encode_sort h.sorts ++ encode_timed h.guard

-- the odd tag of an atom, and what stands behind its tag
abbrev pub atom_tag : Atom → ℕ
atom_tag (equal t u) = equal_tag
atom_tag (before i j) = before_tag
atom_tag (together i j) = same_time_tag
atom_tag (action g i) = action_tag

abbrev pub encode_atom : Atom → List ℕ
encode_atom (equal t u) = encode_term t ++ encode_term u
encode_atom (before i j) = groups i ++ groups j
encode_atom (together i j) = groups i ++ groups j
encode_atom (action g i) = encode_timed (timed_of g i)

abbrev pub encode_formula : Formula → List ℕ
encode_formula absurdity = groups false_tag
encode_formula (is a) = groups (atom_tag a) ++ encode_atom a
encode_formula (isnt a) = groups (suc (atom_tag a)) ++ encode_atom a
encode_formula (both f g) = groups and_tag ++ (encode_formula f ++ encode_formula g)
encode_formula (either f g) = groups or_tag ++ (encode_formula f ++ encode_formula g)
encode_formula (exists s g i f) = groups exists_tag ++ (encode_head (head_of s (timed_of g i)) ++ encode_formula f)
encode_formula (every s g i f) = groups every_tag ++ (encode_head (head_of s (timed_of g i)) ++ encode_formula f)

-- ── reading ──
-- a term's tag and number
abbrev pub term_of : ℕ → ℕ → Term
term_of tag n = pick (eqb tag variable_tag) (var n) (public n)

-- an atom of two times, by whether it is before
abbrev pub times_of : Bool → ℕ → ℕ → Atom
times_of q i j = pick q (before i j) (together i j)

module _ (file : List ℕ) where
  -- "Only tags 0 and 1 stand for terms here."
  unfoldable pub term_at : ℕ → Read Term
  term_at at = and_then (below file term_tags at) (λ t e. and_then (read_number file e) (λ n d. got (term_of t n) d))

  -- "each sort (0 message, 3 time)"
  unfoldable pub sort_at : ℕ → Read Sort
  sort_at at = and_then (read_number file at) (λ v e. pick (eqb v message_sort) (got msg e) (pick (eqb v time_sort) (got tmp e) fault))

  -- "equal .. (two terms)"
  unfoldable pub equal_at : ℕ → Read Atom
  equal_at at = and_then (term_at at) (λ t e. and_then (term_at e) (λ u d. got (equal t u) d))

  -- "before, .. same time .. (two time variables)"
  unfoldable pub times_at : Bool → ℕ → Read Atom
  times_at q at = and_then (read_number file at) (λ i e. and_then (read_number file e) (λ j d. got (times_of q i j) d))

-- two formulas, by a reader of each
abbrev pub pair_at : (ℕ → Read Formula) → Bool → ℕ → Read Formula
pair_at inner q at = and_then (inner at) (λ x e. and_then (inner e) (λ y d. got (paired q x y) d))

-- under the arities of the fact symbols
module _ (file ars : List ℕ) where
  -- a fact: a declared symbol, and as many terms as its arity
  unfoldable pub fact_at : ℕ → Read Pattern
  fact_at at =
      and_then (below file (length ars) at) (λ s e.
      and_then (many (term_at file) (get_or ars s 0) e) (λ ts d. got (pattern_of s ts) d))

  -- "fact, time variable"
  unfoldable pub timed_at : ℕ → Read Timed
  timed_at at = and_then (fact_at at) (λ g e. and_then (read_number file e) (λ i d. got (timed_of g i) d))

  -- "a count of new variables (8), each sort (0 message, 3 time), a guard fact, its time variable"
  unfoldable pub head_at : ℕ → Read Head
  head_at at = and_then (counted file most_new (sort_at file) at) (λ s e. and_then (timed_at e) (λ g d. got (head_of s g) d))

  -- "action .. (fact, time variable)"
  unfoldable pub action_at : ℕ → Read Atom
  action_at at = and_then (timed_at at) (λ g e. got (action g.pattern g.time) e)

  -- what stands behind an atom's tag: 1, 2 equal; 3, 4 before; 5, 6 same time; 7, 8 action
  abbrev pub atom_at : ℕ → ℕ → Read Atom
  atom_at tag at =
      pick (ltb tag before_tag) (equal_at file at) (pick (ltb tag action_tag) (times_at file (ltb tag same_time_tag) at) (action_at at))

  -- "16 in scope", n of them already
  unfoldable pub scoped_at : ℕ → ℕ → Read Head
  scoped_at n at = and_then (head_at at) (λ h e. pick (leb (n + length h.sorts) most_scope) (got h e) fault)

  -- what stands before a quantifier's body, and the body, by a reader of formulas where so many variables are in scope
  abbrev pub quant_at : (ℕ → ℕ → Read Formula) → ℕ → Bool → ℕ → Read Formula
  quant_at inner n q at = and_then (scoped_at n at) (λ h e. and_then (inner (n + length h.sorts) e) (λ x d. got (quantified q h x) d))

  -- what stands behind a formula's tag
  abbrev pub body_at : (ℕ → ℕ → Read Formula) → ℕ → ℕ → ℕ → Read Formula
  body_at inner n tag at =
      pick (eqb tag false_tag) (got absurdity at)
      (pick (ltb tag and_tag) (and_then (atom_at tag at) (λ a e. got (signed (asserts tag) a) e))
      (pick (ltb tag exists_tag) (pair_at (inner n) (eqb tag and_tag) at)
      (quant_at inner n (eqb tag every_tag) at)))

  -- a formula of at most so many levels, n variables in scope
  unfoldable pub formula_at : ℕ → ℕ → ℕ → Read Formula
  formula_at zero n at = fault
  formula_at (suc levels) n at = and_then (below file formula_tags at) (λ tag e. body_at (formula_at levels) n tag e)

  -- the whole file; leftover bytes are a fault
  unfoldable pub property : Read Formula
  property = and_then (formula_at most_nesting 0 0) (λ f e. pick (eqb e (length file)) (got f e) fault)
