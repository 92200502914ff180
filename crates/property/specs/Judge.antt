-- The judge as a definition: it compares each quantifier's guard with every action of every node, in order, and judges both sides of and, or.
use Rattle.std.specs.Prelude.{Bool, true, false, not, ◌&&◌, ◌||◌, List, [], ◌∷◌, ◌++◌, map, ℕ, suc, length, eqb, ltb}
use Rattle.lists.specs.Lists.{any_by, all_by}
use Rattle.property.specs.Formula.{Sort, msg, tmp, Term, Pattern, Atom, equal, before, together, action, Formula}
use Rattle.property.specs.Formula.{absurdity, is, isnt, both, either, exists, every}
use Rattle.property.specs.Fit.{is_var}
use Rattle.property.specs.Meaning.{Messages, Value, message, time, Fact, Entry, Trace, time_at, term_under, fact_under}
-- a test of the entries, and the actions of nodes
pub mod Entries
-- the judge decides what a fit property means
pub mod Decides
-- it sees of messages only which are the same
pub mod Natural
-- numbers for messages
pub mod Numbers

-- every action of every node, the nodes numbered from k
abbrev pub entries_from : {A : Type 0} → ℕ → Trace A → List (Entry A)
entries_from k [] = []
entries_from k (n ∷ tr) = map (λ f. record { node = k; fact = f }) n ++ entries_from (suc k) tr

module _ (M : Messages) where
  abbrev pub Bindings : Type 0
  Bindings = List (Value M.Msg ℕ)

  abbrev pub same_all : List M.Msg → List M.Msg → Bool
  same_all [] [] = true
  same_all [] (b ∷ m) = false
  same_all (a ∷ l) [] = false
  same_all (a ∷ l) (b ∷ m) = M.same a b && same_all l m

  abbrev pub same_fact : Fact M.Msg → Fact M.Msg → Bool
  same_fact f e = eqb f.symbol e.symbol && same_all f.messages e.messages

  -- the pattern at the time variable i is this entry
  abbrev pub matches : Bindings → Pattern → ℕ → Entry M.Msg → Bool
  matches b g i e = eqb (time_at 0 b i) e.node && same_fact (fact_under M b g) e.fact

  -- the message that stands where the variable x first does
  abbrev pub first : ℕ → List Term → List M.Msg → M.Msg
  first x [] ms = M.name 0
  first x (t ∷ ts) [] = M.name 0
  first x (t ∷ ts) (m ∷ ms) = elim (is_var x t) [ true ↦ m | false ↦ first x ts ms ]

  -- what an entry binds the new variables to, which are numbered from x
  abbrev pub found : ℕ → List Sort → Pattern → Entry M.Msg → Bindings
  found x [] g e = []
  found x (msg ∷ s) g e = message (first x g.terms e.fact.messages) ∷ found (suc x) s g e
  found x (tmp ∷ s) g e = time e.node ∷ found (suc x) s g e

  abbrev pub extended : Bindings → List Sort → Pattern → Entry M.Msg → Bindings
  extended b s g e = b ++ found (length b) s g e

  module _ (tr : Trace M.Msg) where
    abbrev pub entries : List (Entry M.Msg)
    entries = entries_from 1 tr

    abbrev pub test : Bindings → Atom → Bool
    test b (equal t u) = M.same (term_under M b t) (term_under M b u)
    test b (before i j) = ltb (time_at 0 b i) (time_at 0 b j)
    test b (together i j) = eqb (time_at 0 b i) (time_at 0 b j)
    test b (action g i) = any_by (matches b g i) entries

    abbrev pub judge : Bindings → Formula → Bool
    judge b absurdity = false
    judge b (is a) = test b a
    judge b (isnt a) = not (test b a)
    judge b (both f g) = judge b f && judge b g
    judge b (either f g) = judge b f || judge b g
    judge b (exists s g i f) = any_by (λ e. matches (extended b s g e) g i e && judge (extended b s g e) f) entries
    judge b (every s g i f) = all_by (λ e. not (matches (extended b s g e) g i e) || judge (extended b s g e) f) entries
