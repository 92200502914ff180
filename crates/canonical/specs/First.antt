-- The first symbol of a term at a place: a leaf with its tag and number, or a function with its tag and arity; and the place behind it.
use Rattle.std.specs.Prelude.{ℕ, ◌+◌, List, ◌≡◌, length, drop, Option}
use Rattle.std.specs.Option.{unwrap_or}
use Rattle.std.proofs.Common.{ap}
use Rattle.octets.specs.Head.{Stands}
use Rattle.number.specs.Groups.{groups}
use Rattle.term.specs.declared.Symbol.{Symbol}
use Rattle.term.specs.declared.Symbol.TheVariants as sy
use Rattle.term.specs.Term.{Term, leaf, app, tag_of, count, encode, Formed, InRange}
use Rattle.term.specs.Arity.{arity}
use Rattle.term.specs.Reader.{symbol_at}
use Rattle.term.specs.Reader.Exact.{symbol_of_leaf, symbol_of_app}

abbrev pub FirstAt : Term → ℕ → Symbol → Type 0
FirstAt (leaf k n) at y = y ≡ sy.Leaf (tag_of k) n (at + length (encode (leaf k n)))
FirstAt (app f ts) at y = y ≡ sy.Op f (count ts) (at + length (groups f))

-- the place behind a symbol
abbrev pub place_behind : Symbol → ℕ
place_behind (sy.Leaf t n e) = e
place_behind (sy.Op t k e) = e

-- where a term stands, the symbol there is its first
pub first_of :
    (src arities : List ℕ) (at : ℕ) (t : Term) (e : ℕ) (y : Symbol) → Formed (arity arities) t → InRange t → Stands src at (encode t) e
    → FirstAt t at (unwrap_or (symbol_at src arities at) y)
first_of src arities at (leaf k n) e y w r st =
    ap (λ (o : Option Symbol). unwrap_or o y) (symbol_of_leaf src arities k n at (drop e src) r st.there)
first_of src arities at (app f ts) e y w r st =
    ap (λ (o : Option Symbol). unwrap_or o y) (symbol_of_app src arities f ts at (drop e src) w.0 r.0 st.there)
