-- Document 01's printed property over its trace, by computation: the contract's demands can be met, and the answer is false.
use Rattle.std.specs.Prelude.{ℕ, zero, suc, ◌+◌, ◌≤◌, ◌<◌, List, [], ◌∷◌, Bool, false, ◌≡◌, refl, length, get_or, replicate}
use Rattle.std.proofs.Common.{◌∙◌, arith}
use Rattle.lists.specs.Asks.{Promises₂}
use Rattle.lists.specs.All.Laws.{all_at}
use Rattle.protocol.specs.Figures.{most_fact_arity}
use Rattle.number.specs.Reading.{read_number, read_in, below, many, counted}
use Rattle.property.specs.Formula.{msg, tmp, var, pattern_of, Formula, every, absurdity}
use Rattle.property.specs.Layout.{term_at, sort_at, fact_at, timed_at, head_at, scoped_at, formula_at, property}
use Rattle.property.specs.Judge.{judge}
use Rattle.property.specs.Judge.Numbers.{numbers}
use Rattle.judge.specs.Tables.{trace_of, Shape, Arities}
use Rattle.judge.specs.Judging.{Property}

-- "property 0C 02 00 03 04 00 00 01 0C 01 03 03 00 00 02 00"
abbrev pub file : List ℕ
file = 12 ∷ 2 ∷ 0 ∷ 3 ∷ 4 ∷ 0 ∷ 0 ∷ 1 ∷ 12 ∷ 1 ∷ 3 ∷ 3 ∷ 0 ∷ 0 ∷ 2 ∷ 0 ∷ []

-- Fr, In, Out, K and one symbol of the protocol's own, each of arity 1
abbrev pub ars : List ℕ
ars = 1 ∷ 1 ∷ 1 ∷ 1 ∷ 1 ∷ []

-- four nodes: the second has the action 4(m), the last K(m)
abbrev pub starts : List ℕ
starts = 0 ∷ 0 ∷ 1 ∷ 1 ∷ 2 ∷ []

abbrev pub symbols : List ℕ
symbols = 4 ∷ 3 ∷ []

abbrev pub classes : List ℕ
classes = replicate 16 0

abbrev pub secret : Formula
secret = every (msg ∷ tmp ∷ []) (pattern_of 4 (var 0 ∷ [])) 1 (every (tmp ∷ []) (pattern_of 3 (var 0 ∷ [])) 2 absurdity)

pub arities : Arities ars ars
arities =
    let one : 1 ≤ most_fact_arity = omega arith in
    record {
      few = omega arith;
      small = all_at (λ (k : ℕ). k ≤ most_fact_arity) 0 (omega arith) ars (one, (one, (one, (one, (one, tt)))));
      same = λ i l. refl;
    }

pub shape : Shape starts symbols classes
shape = record {
  some = omega arith;
  few = omega arith;
  first = refl;
  ascends = ascends;
  known = omega arith;
  wide = omega arith;
}
  where
    ascends : (i : ℕ) → i + 1 < length starts → get_or starts i 0 ≤ get_or starts (i + 1) 0
    ascends zero l = omega arith
    ascends (suc zero) l = omega arith
    ascends (suc (suc zero)) l = omega arith
    ascends (suc (suc (suc zero))) l = omega arith
    ascends (suc (suc (suc (suc i)))) l = absurd (omega arith)

pub is_property : Property file ars ars secret
unfolding property formula_at scoped_at head_at timed_at fact_at term_at sort_at counted below many read_number read_in
is_property = record { arities = arities; end = 16; reads = refl; fits = refl }

-- whatever the call answers
pub attacked :
    {r : Bool}
    → Promises₂ (Property file ars) (λ (l : List ℕ) (φ : Formula). r ≡ judge (numbers 16) (trace_of l symbols classes starts) [] φ)
    → r ≡ false
attacked p = p ars secret is_property ∙ refl
