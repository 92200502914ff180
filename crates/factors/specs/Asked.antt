-- What the functions of this crate are asked, and how they leave the table.
use Rattle.std.specs.Prelude.{ℕ, ◌+◌, ◌≤◌, ◌<◌, ◌≡◌, Bool, List, length}
use Rattle.octets.specs.Limits.{longest}
use Rattle.term.specs.Sizes.{most_symbols}
use Rattle.octets.specs.Head.{Stands}
use Rattle.term.specs.Term.{Term, Terms, count, encode, encodes, symbols, symbolss}
use Rattle.message.specs.Product.{Exps}
use Rattle.message.specs.Gather.{pour, pours}
use Rattle.message.specs.Gather.{Asc}
use Rattle.factors.specs.declared.Entry.{Entry}
use Rattle.factors.specs.declared.Filled.{Filled}
use Rattle.factors.specs.declared.Onward.{Onward}
use Rattle.factors.specs.Mass.{mass}
use Rattle.factors.specs.Rows.{Table}
use Rattle.factors.specs.Laid.{Laid, OneAt}

-- the table has room for that many
abbrev pub Room : List Entry → Type 0
Room T = most_symbols ≤ length T

-- ── entering a factor ──
-- the factor t, whose bytes are the key, stands in src from a on
pub record Enter (key src : List ℕ) (T : List Entry) (n a : ℕ) (l : Exps) (t : Term) : Type 0 where
  pub table : Table src T n l
  pub asc : Asc l
  pub room : Room T
  pub few : mass l < most_symbols
  pub bytes : key ≡ encode t
  pub there : Stands src a (encode t) (a + length key)
  pub short : length src < longest

-- ── the k terms ts at a place, their factors to be entered ──
pub record Collect (arities src : List ℕ) (T : List Entry) (n at k : ℕ) (l : Exps) (ts : Terms) : Type 0 where
  pub table : Table src T n l
  pub asc : Asc l
  pub room : Room T
  pub few : mass l + symbolss ts ≤ most_symbols
  pub laid : Laid arities src at ts
  pub many : count ts ≡ k
  pub inside : at ≤ length src
  pub short : length src < longest

-- the table has the factors l, and the walk stands at e
pub record Collected (src : List ℕ) (T : List Entry) (e : ℕ) (r : Filled) (l : Exps) : Type 0 where
  pub table : Table src T r.n l
  pub next : r.at ≡ e

-- ── one term at a place ──
pub record OneTerm (arities src : List ℕ) (T : List Entry) (n at : ℕ) (l : Exps) (t : Term) : Type 0 where
  pub table : Table src T n l
  pub asc : Asc l
  pub room : Room T
  pub few : mass l + symbols t ≤ most_symbols
  pub one : OneAt arities src at (at + length (encode t)) t
  pub short : length src < longest

-- the table has the factors l, the walk stands at e, and nothing is left
pub record Entered (src : List ℕ) (T : List Entry) (e : ℕ) (r : Onward) (l : Exps) : Type 0 where
  pub table : Table src T r.put.n l
  pub next : r.at ≡ e
  pub none : r.more ≡ 0

-- the table has the factors `now`, and the terms `rest` stand where the walk is: with these they become those of t
pub record Gone (arities src : List ℕ) (T : List Entry) (at : ℕ) (minus : Bool) (r : Onward) (l : Exps) (t : Term) : Type 0 where
  pub now : Exps
  pub rest : Terms
  pub table : Table src T r.put.n now
  pub asc : Asc now
  pub laid : Laid arities src r.at rest
  pub many : count rest ≡ r.more
  pub ends : r.at + length (encodes rest) ≡ at + length (encode t)
  pub after : at < r.at
  pub fewer : mass now + symbolss rest ≤ mass l + symbols t
  pub same : pours minus rest now ≡ pour minus t l
