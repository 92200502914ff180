-- What the crate's functions are asked, by the trees that the bytes encode.
use Rattle.std.specs.Prelude.{ℕ, ◌+◌, ◌≤◌, ◌<◌, List, ◌++◌, ◌≡◌, length, drop, get_or}
use Rattle.octets.specs.Limits.{longest}
use Rattle.term.specs.Sizes.{most_symbols, term_room}
use Rattle.octets.specs.Splice.Prefix.{Wrote}
use Rattle.term.specs.Term.{variable, Term, Terms, count, encode, encodes, symbols, Formed, Formeds, InRange, InRanges, Occurss}
use Rattle.term.specs.Arity.{arity}
use Rattle.message.specs.Substitution.{sub, subs, Ground}
use Rattle.message.specs.Parts.Entries.{Each}
use Rattle.message.specs.Canon.{canon}
use Rattle.canonical.specs.Builtins.{Builtins}
-- what is written are the canonical forms
pub mod Laws

-- ── a run of terms ──
-- the value t of variable v: canonical, its bytes in `vals` from the v-th of `starts` up to the next
pub record Value (arities vals starts : List ℕ) (v : ℕ) (t : Term) : Type 0 where
  pub listed : v + 1 < length starts
  pub rest : List ℕ
  pub there : drop (get_or starts v 0) vals ≡ encode t ++ rest
  pub ends : get_or starts (v + 1) 0 ≡ get_or starts v 0 + length (encode t)
  pub formed : Formed (arity arities) t
  pub range : InRange t
  pub own : canon t ≡ t

-- the k terms ts stand in src from `at` on, their variables have the values θ, and an output of n bytes has room from o on for the terms
-- filled in, and behind them for a product
pub record Job (arities vals starts src : List ℕ) (at k n o : ℕ) (θ : ℕ → Term) (ts : Terms) : Type 0 where
  pub table : Builtins arities
  pub many : count ts ≡ k
  pub formed : Formeds (arity arities) ts
  pub range : InRanges ts
  pub rest : List ℕ
  pub there : drop at src ≡ encodes ts ++ rest
  pub values : (v : ℕ) → Occurss variable v ts → Value arities vals starts v (θ v)
  pub small : Each (λ t. symbols (sub θ t) ≤ most_symbols) ts
  pub room : o + length (encodes (subs θ ts)) + term_room ≤ n
  pub short : n ≤ longest
  pub values_short : length vals ≤ longest

-- p was read from `at` on and q written from o on; from w on the output is as it was
pub record Out (w at : ℕ) (out : List ℕ) (o : ℕ) (out' : List ℕ) (at' o' : ℕ) (p q : List ℕ) : Type 0 where
  pub read : at' ≡ at + length p
  pub wrote : Wrote w out o out' o' q

-- ── one message ──
-- the message t stands in src from `at` on
pub record MessageAt (arities src : List ℕ) (at : ℕ) (t : Term) : Type 0 where
  pub table : Builtins arities
  pub formed : Formed (arity arities) t
  pub is_ground : Ground t
  pub range : InRange t
  pub rest : List ℕ
  pub there : drop at src ≡ encode t ++ rest
  pub small : symbols t ≤ most_symbols
  pub short : length src ≤ longest

-- these bytes are it
pub record MessageIs (arities bytes : List ℕ) (t : Term) : Type 0 where
  pub is : MessageAt arities bytes 0 t
  pub whole : bytes ≡ encode t

-- the room in which a message's form is made: for the term, and behind it for a product
abbrev pub form_room : ℕ
form_room = term_room + term_room
