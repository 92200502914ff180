-- The limits of a property file, as one predicate, with numbers below any limit.
use Rattle.std.specs.Prelude.{ℕ, suc, ◌+◌, max, ◌≤◌, ◌<◌, List, ◌≡◌, length, get_or}
use Rattle.lists.specs.All.{All}
use Rattle.number.specs.Groups.{number_limit}
use Rattle.property.specs.Figures.{most_new, most_scope, most_nesting}
use Rattle.property.specs.Formula.{Sort, Term, var, public, Pattern, Atom, equal, before, together, action, Formula}
use Rattle.property.specs.Formula.{absurdity, is, isnt, both, either, exists, every}
-- a larger limit of numbers
pub mod Wider

-- "nesting at most 16, the outermost formula counting one": every formula on a path counts
abbrev pub depth : Formula → ℕ
depth absurdity = 1
depth (is a) = 1
depth (isnt a) = 1
depth (both f g) = suc (max (depth f) (depth g))
depth (either f g) = suc (max (depth f) (depth g))
depth (exists s g i f) = suc (depth f)
depth (every s g i f) = suc (depth f)

-- numbers below `limit`
abbrev pub TermBelow : ℕ → Term → Type 0
TermBelow limit (var x) = x < limit
TermBelow limit (public n) = n < limit

-- and under the arities of the fact symbols
module _ (limit : ℕ) (ars : List ℕ) where
  -- a declared symbol, and as many terms as its arity
  pub record PatternBelow (g : Pattern) : Type 0 where
    pub known : g.symbol < length ars
    pub takes : length g.terms ≡ get_or ars g.symbol 0
    pub each : All (TermBelow limit) g.terms

  abbrev pub AtomBelow : Atom → Type 0
  AtomBelow (equal t u) = TermBelow limit t × TermBelow limit u
  AtomBelow (before i j) = (i < limit) × (j < limit)
  AtomBelow (together i j) = (i < limit) × (j < limit)
  AtomBelow (action g i) = PatternBelow g × (i < limit)

  -- "a count of new variables (8)", "16 in scope", of which n are of the enclosing quantifiers
  pub record HeadBelow (n : ℕ) (s : List Sort) (g : Pattern) (i : ℕ) : Type 0 where
    pub few : length s ≤ most_new
    pub room : n + length s ≤ most_scope
    pub guard : PatternBelow g
    pub time : i < limit

  -- a formula where n variables are in scope: those of enclosing quantifiers, and of no sibling
  abbrev pub ScopesBelow : ℕ → Formula → Type 0
  ScopesBelow n absurdity = Unit {0}
  ScopesBelow n (is a) = AtomBelow a
  ScopesBelow n (isnt a) = AtomBelow a
  ScopesBelow n (both f g) = ScopesBelow n f × ScopesBelow n g
  ScopesBelow n (either f g) = ScopesBelow n f × ScopesBelow n g
  ScopesBelow n (exists s g i f) = HeadBelow n s g i × ScopesBelow (n + length s) f
  ScopesBelow n (every s g i f) = HeadBelow n s g i × ScopesBelow (n + length s) f

  pub record FormulaBelow (f : Formula) : Type 0 where
    pub nesting : depth f ≤ most_nesting
    pub scopes : ScopesBelow 0 f

-- with the numbers that a file can hold
abbrev pub FormulaWithin : List ℕ → Formula → Type 0
FormulaWithin = FormulaBelow number_limit
