-- "Conditions P1 to P4" and document 02's fifth as tests of a rule; the least rule that breaks one; what a protocol file is judged to be.
use Rattle.std.specs.Prelude.{ℕ, ◌+◌, List, Bool, ◌||◌, ◌&&◌, not, length, get_or, eqb}
use Rattle.lists.specs.Choice.{pick}
use Rattle.number.specs.Groups.{number_limit}
use Rattle.number.specs.Reading.{Read, got, fault}
use Rattle.lists.specs.Lists.{any_by}
use Rattle.lists.specs.Below.{all_below, least}
use Rattle.protocol.specs.Protocol.{Fact, Rule, Protocol, empty_rule, premises, actions, conclusions, leaf_in}
use Rattle.protocol.specs.Protocol.Walks.{symbol_in}
-- what the tests mean, in words of occurrence
pub mod Meaning
-- the tests as the code makes them
pub mod Laws

-- P1, "no fresh name in a rule": premises, actions and conclusions
abbrev pub p1 : Rule → Bool
p1 r = not (any_by (any_by (leaf_in 2 0 number_limit)) r.lists)

-- P2, "no K or Out among premises": symbols 2 and 3
abbrev pub p2 : Rule → Bool
p2 r = not (any_by (symbol_in 2 4) (premises r))

-- P3, "no K, In or Fr among conclusions": symbols 0 and 1, and 3
abbrev pub p3 : Rule → Bool
p3 r = not (any_by (symbol_in 0 2) (conclusions r)) && not (any_by (symbol_in 3 4) (conclusions r))

-- variable v stands in one of these facts
abbrev pub stands : ℕ → List Fact → Bool
stands v = any_by (leaf_in 0 v (v + 1))

-- variable v is of sort public, or in a premise, or in no conclusion and no action
abbrev pub bound : Rule → ℕ → Bool
bound r v = eqb (get_or r.sorts v 0) 2 || (stands v (premises r) || (not (stands v (conclusions r)) && not (stands v (actions r))))

-- P4, "each variable of a conclusion is in a premise or is of sort public";
-- P5, document 02: "a variable in an action must also stand in a premise, or be of sort public"
abbrev pub p45 : Rule → Bool
p45 r = all_below (bound r) (length r.sorts)

abbrev pub fits : Rule → Bool
fits r = p1 r && (p2 r && (p3 r && p45 r))

-- the least rule that breaks a condition, its place in the file from 1; 0 if none does
abbrev pub least_unfit : List Rule → ℕ
least_unfit rs = least (λ k. not (fits (get_or rs k empty_rule))) (length rs)

-- a protocol file keeps to the limits and the conditions, or some rule breaks one, or it keeps not even to the limits
pub data Verdict : Type 0 where
  sound : Verdict
  broken : ℕ → Verdict
  malformed : Verdict

abbrev pub outcome : ℕ → Verdict
outcome k = pick (eqb k 0) sound (broken k)

abbrev pub judged : Read Protocol → Verdict
judged (got p e) = outcome (least_unfit p.rules)
judged fault = malformed
