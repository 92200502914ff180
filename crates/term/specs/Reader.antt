-- Reading one term at a place: its first symbol, and as many terms behind it as that takes.
use Rattle.std.specs.Prelude.{ℕ, zero, suc, List, [], ◌∷◌, length, ltb}
use Rattle.std.specs.Prelude.{Option, Some, None}
use Rattle.lists.specs.Choice.{pick}
use Rattle.number.specs.Reading.{Read, got, fault, and_then, read_number, many}
use Rattle.term.specs.declared.Symbol.{Symbol}
use Rattle.term.specs.declared.Symbol.TheVariants as sy
use Rattle.term.specs.Term.{Kind, variable, public, fresh, Term, leaf, app, Terms, nil, ◌&◌}
use Rattle.term.specs.Tags.{first_function}
use Rattle.term.specs.Arity.{arity}
-- a term goes forward, and how deep it is does not matter
pub mod Laws
-- what reads is the encoding of one formed term in range, and each such term reads back
pub mod Exact

abbrev pub terms : List Term → Terms
terms [] = nil
terms (t ∷ ts) = t & terms ts

abbrev pub kind_of : ℕ → Kind
kind_of zero = variable
kind_of (suc zero) = public
kind_of (suc (suc n)) = fresh

-- ── the symbol at a place ──
abbrev pub name_at : ℕ → Read ℕ → Option Symbol
name_at t (got n e) = Some (sy.Leaf t n e)
name_at t fault = None

abbrev pub op_at : ℕ → Option ℕ → ℕ → Option Symbol
op_at t (Some k) e = Some (sy.Op t k e)
op_at t None e = None

abbrev pub symbol_of : List ℕ → List ℕ → Read ℕ → Option Symbol
symbol_of file arities (got t e) = pick (ltb t first_function) (name_at t (read_number file e)) (op_at t (arity arities t) e)
symbol_of file arities fault = None

unfoldable pub symbol_at : List ℕ → List ℕ → ℕ → Option Symbol
symbol_at file arities at = symbol_of file arities (read_number file at)

-- ── the term at a place ──
abbrev pub build : (ℕ → Read Term) → Option Symbol → Read Term
build p (Some (sy.Leaf t n e)) = got (leaf (kind_of t) n) e
build p (Some (sy.Op t k e)) = and_then (many p k e) (λ ts f. got (app t (terms ts)) f)
build p None = fault

-- at most `depth` deep
unfoldable pub term_in : ℕ → List ℕ → List ℕ → ℕ → Read Term
term_in zero file arities at = fault
term_in (suc depth) file arities at = build (term_in depth file arities) (symbol_at file arities at)

-- no term is deeper than the file is long
unfoldable pub term : List ℕ → List ℕ → ℕ → Read Term
term file arities at = term_in (length file) file arities at
