-- A property that keeps to the limits with numbers below one limit keeps to them with a larger one.
use Rattle.std.specs.Prelude.{ℕ, ◌+◌, ◌≤◌, List, length}
use Rattle.std.proofs.Common.{arith}
use Rattle.lists.specs.All.Laws.{all_map}
use Rattle.property.specs.Formula.{Sort, Term, var, public, Pattern, Atom, equal, before, together, action, Formula}
use Rattle.property.specs.Formula.{absurdity, is, isnt, both, either, exists, every}
use Rattle.property.specs.Formula.Limits.{TermBelow, PatternBelow, AtomBelow, HeadBelow, ScopesBelow, FormulaBelow}

module _ (limit more : ℕ) (wider : limit ≤ more) where
  term_wider : (t : Term) → TermBelow limit t → TermBelow more t
  term_wider (var x) h = omega arith
  term_wider (public n) h = omega arith

  module _ (ars : List ℕ) where
    pattern_wider : (g : Pattern) → PatternBelow limit ars g → PatternBelow more ars g
    pattern_wider g h = record {
      known = h.known;
      takes = h.takes;
      each = all_map (TermBelow limit) (TermBelow more) term_wider g.terms h.each;
    }

    atom_wider : (a : Atom) → AtomBelow limit ars a → AtomBelow more ars a
    atom_wider (equal t u) h = (term_wider t h.0, term_wider u h.1)
    atom_wider (before i j) h = (omega (arith, h.0), omega (arith, h.1))
    atom_wider (together i j) h = (omega (arith, h.0), omega (arith, h.1))
    atom_wider (action g i) h = (pattern_wider g h.0, omega (arith, h.1))

    head_wider : (n : ℕ) (s : List Sort) (g : Pattern) (i : ℕ) → HeadBelow limit ars n s g i → HeadBelow more ars n s g i
    head_wider n s g i h = record { few = h.few; room = h.room; guard = pattern_wider g h.guard; time = omega (arith, h.time) }

    scopes_wider : (n : ℕ) (f : Formula) → ScopesBelow limit ars n f → ScopesBelow more ars n f
    scopes_wider n absurdity h = tt
    scopes_wider n (is a) h = atom_wider a h
    scopes_wider n (isnt a) h = atom_wider a h
    scopes_wider n (both f g) h = (scopes_wider n f h.0, scopes_wider n g h.1)
    scopes_wider n (either f g) h = (scopes_wider n f h.0, scopes_wider n g h.1)
    scopes_wider n (exists s g i f) h = (head_wider n s g i h.0, scopes_wider (n + length s) f h.1)
    scopes_wider n (every s g i f) h = (head_wider n s g i h.0, scopes_wider (n + length s) f h.1)

    pub formula_wider : (f : Formula) → FormulaBelow limit ars f → FormulaBelow more ars f
    formula_wider f h = record { nesting = h.nesting; scopes = scopes_wider 0 f h.scopes }
