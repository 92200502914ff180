-- The places in a rule, each by the readings up to it; 0 where a reading is a fault.
use Rattle.std.specs.Prelude.{ℕ, List, ◌≡◌, length}
use Rattle.protocol.specs.Figures.{sort_count, fact_limit, variable_limit}
use Rattle.number.specs.Reading.{Read, got, fault, and_then, below, many}
use Rattle.protocol.specs.Protocol.{rule_term, fact, facts}
use Rattle.protocol.specs.Protocol.Walks.{sorts_at}
-- what stands at the places, by the rule that was read
pub mod Laws
-- the places as the code goes to them
pub mod Ends

module _ {A : Type 0} where
  -- the place behind a reading
  abbrev pub place_of : Read A → ℕ
  place_of (got x e) = e
  place_of fault = 0

  -- x stands at a place
  pub record Here (p : ℕ → Read A) (x : A) (place : ℕ) : Type 0 where
    pub next : ℕ
    pub reads : p place ≡ got x next

  -- of a place, what stands there; and with the place behind it: as contracts ask and promise
  abbrev pub At : (ℕ → Read A) → ℕ → A → Type 0
  At p place x = Here p x place

  abbrev pub ReadAs : (ℕ → Read A) → ℕ → A → ℕ → Type 0
  ReadAs p at x e = p at ≡ got x e

-- the number that was read
abbrev pub value_of : Read ℕ → ℕ
value_of (got n e) = n
value_of fault = 0

-- of the rule at a place: the sort of variable v; the place of a list (0 premises, 1 actions, 2 conclusions)
unfoldable pub sort_of : List ℕ → ℕ → ℕ → Read ℕ
sort_of file at v = and_then (below file variable_limit at) (λ n e. and_then (many (below file sort_count) v e) (λ vs f. below file sort_count f))

unfoldable pub list_place : List ℕ → List ℕ → List ℕ → ℕ → ℕ → ℕ
list_place file arities ars at list = place_of (and_then (sorts_at file at) (λ n e. many (facts file arities ars) list e))

-- of the list at a place: the place of fact i
unfoldable pub fact_place : List ℕ → List ℕ → List ℕ → ℕ → ℕ → ℕ
fact_place file arities ars at i = place_of (and_then (below file fact_limit at) (λ n e. many (fact file arities ars) i e))

-- of the fact at a place: the place of term j
unfoldable pub term_place : List ℕ → List ℕ → List ℕ → ℕ → ℕ → ℕ
term_place file arities ars at j = place_of (and_then (below file (length ars) at) (λ y e. many (rule_term file arities) j e))
