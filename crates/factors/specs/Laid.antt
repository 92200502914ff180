-- Terms that stand in a slice one behind the other.
use Rattle.std.specs.Prelude.{ℕ, ◌+◌, List, length}
use Rattle.octets.specs.Head.{Stands}
use Rattle.term.specs.Term.{Term, Terms, nil, ◌&◌, encode, encodes, Formed, Formeds, InRange, InRanges}
use Rattle.term.specs.Arity.{arity}
-- the first of them, the others, the arguments of one
pub mod Laws

-- the terms ts stand in src from `at` on, formed and in range
pub record Laid (arities src : List ℕ) (at : ℕ) (ts : Terms) : Type 0 where
  pub formed : Formeds (arity arities) ts
  pub range : InRanges ts
  pub there : Stands src at (encodes ts) (at + length (encodes ts))

-- the term t stands in src from `at` up to e
pub record OneAt (arities src : List ℕ) (at e : ℕ) (t : Term) : Type 0 where
  pub formed : Formed (arity arities) t
  pub range : InRange t
  pub there : Stands src at (encode t) e

-- some terms and others behind them
abbrev pub also : Terms → Terms → Terms
also nil us = us
also (t & ts) us = t & also ts us
