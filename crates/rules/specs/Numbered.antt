-- "Rules and runs": the built-in rules, and the rule of each number.
use Rattle.std.specs.Prelude.{ℕ, zero, suc, ◌+◌, ◌-◌, ◌*◌, List, [], ◌∷◌, map, replicate, ltb, eqb}
use Rattle.std.specs.Prelude.{Option, Some, None}
use Rattle.std.specs.Prelude.{slice_get}
use Rattle.protocol.specs.Figures.{fresh_sort, message_sort, public_sort, most_arity, most_rules}
use Rattle.lists.specs.Choice.{pick}
use Rattle.term.specs.Term.{Term, leaf, app, variable}
use Rattle.term.specs.Tags.{tag_count}
use Rattle.term.specs.Arity.{arity, tag_arities}
use Rattle.term.specs.Reader.{terms}
use Rattle.protocol.specs.Protocol.{Fact, Rule, Protocol, fact_of, rule_of_lem, fr_symbol, in_symbol, out_symbol, k_symbol}
-- the map of numbers
pub mod Map
-- the slots of the rules that are written out
pub mod Slots
-- they keep to the limits
pub mod Limits
-- their bytes, and how the code writes them
pub mod Bytes
pub mod Writing
-- what the code finds
pub mod Found

-- ── the rules 0 to 4, of one variable each ──
-- a fact of the first variable, as a list
abbrev pub first : ℕ → List Fact
first y = fact_of y (leaf variable 0 ∷ []) ∷ []

-- "Rule 0 makes Fr(fresh)."
abbrev pub makes_fresh : Rule
makes_fresh = rule_of_lem (fresh_sort ∷ []) ([] ∷ [] ∷ first fr_symbol ∷ [])

-- "1: Out(y) to K(y)."
abbrev pub hears : Rule
hears = rule_of_lem (message_sort ∷ []) (first out_symbol ∷ [] ∷ first k_symbol ∷ [])

-- "2: K(y) to In(y) with action K(y)."
abbrev pub injects : Rule
injects = rule_of_lem (message_sort ∷ []) (first k_symbol ∷ first k_symbol ∷ first in_symbol ∷ [])

-- "3: nothing to K(public)."
abbrev pub names : Rule
names = rule_of_lem (public_sort ∷ []) ([] ∷ [] ∷ first k_symbol ∷ [])

-- "4: Fr(fresh) to K(fresh)."
abbrev pub learns : Rule
learns = rule_of_lem (fresh_sort ∷ []) (first fr_symbol ∷ [] ∷ first k_symbol ∷ [])

unfoldable pub fixed : ℕ → Rule
fixed n = pick (eqb n 0) makes_fresh (pick (eqb n 1) hears (pick (eqb n 2) injects (pick (eqb n 3) names learns)))

-- ── the apply-rules ──
-- n variables from i on, in order
abbrev pub variables : ℕ → ℕ → List Term
variables i zero = []
variables i (suc n) = leaf variable i ∷ variables (suc i) n

abbrev pub known : Term → Fact
known t = fact_of k_symbol (t ∷ [])

-- "Rule t+2 applies the function of tag t to known messages, K to K"; "These apply-rules have message variables in argument order."
abbrev pub applies : ℕ → ℕ → Rule
applies t k =
    rule_of_lem (replicate k message_sort) (map known (variables 0 k) ∷ [] ∷ (known (app t (terms (variables 0 k))) ∷ []) ∷ [])

-- the bytes of the longest built-in rule, which applies a function of arity 4
abbrev pub rule_room : ℕ
rule_room = 6 + 6 * most_arity

abbrev pub applied : ℕ → Option ℕ → Option Rule
applied t (Some k) = Some (applies t k)
applied t None = None

-- ── what each number stands for ──
-- rule n of 0 to 4; the apply-rule of a tag; the protocol's rule r; no rule
pub data Numbered : Type 0 where
  a_fixed an_apply an_own : ℕ → Numbered
  nothing : Numbered

-- the rules 0 to 4 come first; "Rule t+2 applies the function of tag t"; "a protocol rule r (from 0) is 31+r"; "Their apply-rules are 95 to 100, in
-- that order, so protocol rules keep their numbers"
abbrev pub first_apply : ℕ
first_apply = 5

abbrev pub tag_shift : ℕ
tag_shift = 2

abbrev pub first_own_rule : ℕ
first_own_rule = 31

abbrev pub first_signing : ℕ
first_signing = first_own_rule + most_rules

abbrev pub signing_shift : ℕ
signing_shift = 66

abbrev pub number_count : ℕ
number_count = tag_count + signing_shift

-- a row is a range of numbers: the first that it is below
unfoldable pub numbered : ℕ → Numbered
numbered n =
    pick (ltb n first_apply) (a_fixed n)
    (pick (ltb n first_own_rule) (an_apply (n - tag_shift))
    (pick (ltb n first_signing) (an_own (n - first_own_rule))
    (pick (ltb n number_count) (an_apply (n - signing_shift))
    nothing)))

-- ── the rule of each number ──
abbrev pub rule_as : Protocol → Numbered → Option Rule
rule_as p (a_fixed n) = Some (fixed n)
rule_as p (an_apply t) = applied t (arity (tag_arities p.functions) t)
rule_as p (an_own r) = slice_get p.rules r
rule_as p nothing = None

unfoldable pub rule_of : Protocol → ℕ → Option Rule
rule_of p n = rule_as p (numbered n)
