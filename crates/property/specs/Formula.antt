-- Properties: their syntax. "Variables are numbered from the outermost, 0 up."
use Rattle.std.specs.Prelude.{List, ℕ}
-- the limits of a property file
pub mod Limits

-- "each sort (0 message, 3 time)"
pub data Sort : Type 0 where
  msg tmp : Sort

-- "Only tags 0 and 1 stand for terms here": a variable, or a public name
pub data Term : Type 0 where
  var : ℕ → Term
  public : ℕ → Term

-- a fact of a property: its symbol and its terms
pub record Pattern : Type 0 where
  pub symbol : ℕ
  pub terms : List Term

abbrev pub pattern_of : ℕ → List Term → Pattern
pattern_of y ts = record { symbol = y; terms = ts }

-- "equal .. (two terms); before, .. same time .. (two time variables); action .. (fact, time variable)"
pub data Atom : Type 0 where
  equal : (t u : Term) → Atom
  before : (i j : ℕ) → Atom
  together : (i j : ℕ) → Atom
  action : (g : Pattern) (i : ℕ) → Atom

-- "0 false", an atom or its denial, "9 and, 10 or; 11 exists, 12 for all: a count of new variables (8), each sort .., a guard fact, its time
-- variable, then the body"
pub data Formula : Type 0 where
  absurdity : Formula
  is isnt : Atom → Formula
  both either : Formula → Formula → Formula
  exists every : (s : List Sort) (g : Pattern) (i : ℕ) → Formula → Formula
