-- What code answers of the terms at a place: the place behind them, their symbols, whether a leaf of some kind stands in them.
use Rattle.std.specs.Prelude.{Option, Some, None, ℕ, ◌+◌, List, [], ◌∷◌, Bool, false, ◌||◌, ◌&&◌, not, ltb, eqb}
use Rattle.number.specs.Reading.{Read, got, fault}
use Rattle.lists.specs.Lists.{any_by}
use Rattle.term.specs.declared.Walk.{Walk}
use Rattle.term.specs.Term.{Term, leaf, app, Terms, nil, ◌&◌, tag_of, encode, symbols}
-- a term is walked symbol by symbol
pub mod Laws
-- what the answers say of trees
pub mod Exact
-- the test for a leaf decides
pub mod Holds

-- a leaf of the kind with this tag, its number from lo on and below hi
abbrev pub hits : ℕ → ℕ → ℕ → ℕ → ℕ → Bool
hits kind lo hi t n = eqb t kind && (not (ltb n lo) && ltb n hi)

-- such a leaf stands in a term
abbrev mutual
  pub holds : Term → ℕ → ℕ → ℕ → Bool
  holds (leaf k n) kind lo hi = hits kind lo hi (tag_of k) n
  holds (app f ts) kind lo hi = holdss ts kind lo hi

  pub holdss : Terms → ℕ → ℕ → ℕ → Bool
  holdss nil kind lo hi = false
  holdss (t & ts) kind lo hi = holds t kind lo hi || holdss ts kind lo hi

-- the symbols of several terms
abbrev pub total : List Term → ℕ
total [] = 0
total (t ∷ ts) = symbols t + total ts

-- what code answers of terms
abbrev pub walk : ℕ → ℕ → Bool → Walk
walk e n b = record { end = e; size = n; hit = b }

-- one term: the place behind it, its symbols, whether it holds such a leaf
abbrev pub walked : ℕ → ℕ → ℕ → Read Term → Option Walk
walked kind lo hi (got t e) = Some (walk e (symbols t) (holds t kind lo hi))
walked kind lo hi fault = None

-- several terms
abbrev pub walks : ℕ → ℕ → ℕ → Read (List Term) → Option Walk
walks kind lo hi (got ts e) = Some (walk e (total ts) (any_by (λ t. holds t kind lo hi) ts))
walks kind lo hi fault = None

-- the place behind one term and its symbols; behind several
abbrev pub ended : Read Term → Option (ℕ × ℕ)
ended (got t e) = Some (e, symbols t)
ended fault = None

abbrev pub endeds : Read (List Term) → Option (ℕ × ℕ)
endeds (got ts e) = Some (e, total ts)
endeds fault = None

-- the bytes of a term; none where no term stands
abbrev pub bytes_of : Read Term → List ℕ
bytes_of (got t e) = encode t
bytes_of fault = []
