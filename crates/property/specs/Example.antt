-- Document 01's printed property and its trace, by computation; and some files that are refused.
use Rattle.std.specs.Prelude.{ℕ, List, [], ◌∷◌, true, false, ◌≡◌, refl}
use Rattle.number.specs.Reading.{got, fault, read_in, read_number, below, many, counted}
use Rattle.property.specs.Formula.{msg, tmp, var, pattern_of, Formula, absurdity, is, together, exists, every}
use Rattle.property.specs.Fit.{fit}
use Rattle.property.specs.Layout.{term_at, sort_at, fact_at, timed_at, head_at, scoped_at, action_at, formula_at, property}
use Rattle.property.specs.Meaning.{Trace}
use Rattle.property.specs.Judge.{judge}
use Rattle.property.specs.Judge.Numbers.{numbers}

-- 0C 02 00 03 04 00 00 01 0C 01 03 03 00 00 02 00: for all x and i, 4(x) at i, for all j, K(x) at j: false
abbrev pub printed : List ℕ
printed = 12 ∷ 2 ∷ 0 ∷ 3 ∷ 4 ∷ 0 ∷ 0 ∷ 1 ∷ 12 ∷ 1 ∷ 3 ∷ 3 ∷ 0 ∷ 0 ∷ 2 ∷ 0 ∷ []

abbrev pub secret : Formula
secret =
    every (msg ∷ tmp ∷ []) (pattern_of 4 (var 0 ∷ [])) 1
    (every (tmp ∷ []) (pattern_of 3 (var 0 ∷ [])) 2 absurdity)

-- the arities of Fr, In, Out, K and the printed protocol's own symbol
abbrev pub printed_arities : List ℕ
printed_arities = 1 ∷ 1 ∷ 1 ∷ 1 ∷ 1 ∷ []

pub reads : property printed printed_arities ≡ got secret 16
unfolding property formula_at scoped_at head_at timed_at fact_at sort_at term_at many counted below read_number read_in
reads = refl

pub fits : fit [] secret ≡ true
fits = refl

-- node 2 has the action 4(a), node 4 the action K(a), as numbers: false, an attack
abbrev pub attack : Trace ℕ
attack = [] ∷ (record { symbol = 4; messages = 0 ∷ [] } ∷ []) ∷ [] ∷ (record { symbol = 3; messages = 0 ∷ [] } ∷ []) ∷ []

pub attacked : judge (numbers 9) attack [] secret ≡ false
attacked = refl

-- without the last node's action it holds
pub holds : judge (numbers 9) ([] ∷ (record { symbol = 4; messages = 0 ∷ [] } ∷ []) ∷ [] ∷ [] ∷ []) [] secret ≡ true
holds = refl

-- ── refused ──
leftover : property (0 ∷ 0 ∷ []) [] ≡ fault
unfolding property formula_at below read_number read_in
leftover = refl

undeclared : property (7 ∷ 5 ∷ 0 ∷ 0 ∷ 0 ∷ []) printed_arities ≡ fault
unfolding property formula_at action_at timed_at fact_at below read_number read_in
undeclared = refl

-- two new times in one quantifier: one of them is not in the guard
two_times : fit [] (exists (tmp ∷ tmp ∷ []) (pattern_of 3 []) 0 absurdity) ≡ false
two_times = refl

-- a time that no quantifier brings
free_time : fit [] (is (together 0 0)) ≡ false
free_time = refl
