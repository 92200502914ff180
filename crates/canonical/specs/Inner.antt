-- What the crate's inner functions are asked, in the same way.
use Rattle.std.specs.Prelude.{ℕ, ◌+◌, ◌≤◌, ◌<◌, List, ◌++◌, ◌≡◌, length}
use Rattle.octets.specs.Limits.{longest}
use Rattle.term.specs.Sizes.{most_symbols, term_room}
use Rattle.octets.specs.Head.{Stands}
use Rattle.octets.specs.Splice.Prefix.{Wrote}
use Rattle.number.specs.Groups.{number_limit}
use Rattle.term.specs.Term.{Kind, Term, leaf, app, Terms, tag_of, encode, encodes, symbols, Formed, InRange, variable, Occurs}
use Rattle.term.specs.Arity.{arity}
use Rattle.message.specs.Substitution.{sub, subs}
use Rattle.canonical.specs.Builtins.{Builtins}
use Rattle.canonical.specs.Contract.{Value, Job}

-- ── a leaf ──
-- the leaf of a kind and a number, its value if it is a variable, and room for it
pub record LeafJob (vals starts : List ℕ) (n o tag number : ℕ) (θ : ℕ → Term) (k : Kind) : Type 0 where
  pub arities : List ℕ
  pub kind : tag ≡ tag_of k
  pub range : number < number_limit
  pub values : (v : ℕ) → Occurs variable v (leaf k number) → Value arities vals starts v (θ v)
  pub room : o + length (encode (sub θ (leaf k number))) ≤ n

-- ── one term ──
-- the term t stands in src from `at` up to e
pub record Here (arities src : List ℕ) (at e : ℕ) (t : Term) : Type 0 where
  pub formed : Formed (arity arities) t
  pub range : InRange t
  pub stands : Stands src at (encode t) e

-- ── a function of made arguments, in the output from o up to e, and room behind it for a product ──
pub record Built (arities out : List ℕ) (o e f : ℕ) (us : Terms) : Type 0 where
  pub table : Builtins arities
  pub here : Here arities out o e (app f us)
  pub small : symbols (app f us) ≤ most_symbols
  pub room : e + term_room ≤ length out
  pub short : length out ≤ longest

-- ── terms filled in as they stand ──
-- of the terms ts, which stand at at₀ and are written from o₀ on, the bytes q are written, and the terms us are left
pub record Going (arities vals starts src : List ℕ) (at₀ : ℕ) (out₀ : List ℕ) (o₀ at left : ℕ) (out : List ℕ) (o : ℕ) (θ : ℕ → Term) (ts : Terms) :
    Type 0 where
  pub us : Terms
  pub job : Job arities vals starts src at left (length out) o θ us
  pub read : at + length (encodes us) ≡ at₀ + length (encodes ts)
  pub q : List ℕ
  pub wrote : Wrote o out₀ o₀ out o q
  pub same : encodes (subs θ ts) ≡ q ++ encodes (subs θ us)
