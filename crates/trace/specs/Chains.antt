-- Chains of places by mark, and the classes that they give. Each place that is not numbered by its name gets the number of an earlier place with
-- the same key, found in the chain of its mark, or else its own.
use Rattle.std.specs.Prelude.{ℕ, suc, ◌+◌, ◌*◌, ◌%◌, ◌≤◌, ◌<◌, List, ◌↔◌, ◌≡◌, length, get_or, ltb}
use Rattle.lists.specs.Choice.{pick}
use Rattle.trace.specs.Tables.{stride, place_count, base}
-- what is in a chain
pub mod Laws
-- one place more
pub mod Steps

-- ── a link for each place, and behind the links the heads of the chains ──
-- where the actions are many, one for each mark
abbrev pub most_heads : ℕ
most_heads = base

abbrev pub most_chains : ℕ
most_chains = place_count + most_heads

abbrev pub few_heads : ℕ
few_heads = 256

abbrev pub few_actions : ℕ
few_actions = 32

abbrev pub few_places : ℕ
few_places = stride * few_actions

abbrev pub few_chains : ℕ
few_chains = few_places + few_heads

-- where the head of a mark's chain stands, in chains of a size
unfoldable pub chain_of : ℕ → ℕ → ℕ
chain_of size mark = pick (ltb size most_chains) (few_places + mark % few_heads) (place_count + mark % most_heads)

-- the heads are behind the links of the places before m
abbrev pub HeadsBehind : ℕ → ℕ → Type 0
HeadsBehind size m = (mark : ℕ) → (m ≤ chain_of size mark) × (chain_of size mark < size)

-- h is 0 at the end of a chain, else a place and one
module _ (chains : List ℕ) where
  pub data InChain : ℕ → ℕ → Type 0 where
    here : {h l : ℕ} → h ≡ suc l → InChain h l
    later : {h l : ℕ} (r : ℕ) → h ≡ suc r → InChain (get_or chains r 0) l → InChain h l

  -- a link leads to an earlier place
  abbrev pub Falls : Type 0
  Falls = (r : ℕ) → get_or chains r 0 ≤ r

-- ── the classes of the places before m, from their first numbers ──
-- it has a mark and no name
abbrev pub Marked : List ℕ → ℕ → Type 0
Marked raw q = get_or raw q 0 < base

module _ {K : Type 0} (key : ℕ → K) (raw : List ℕ) where
  pub record Classed (classes chains : List ℕ) (m : ℕ) : Type 0 where
    -- the places from m on still have their first numbers, and a public name keeps its own
    pub kept : (q : ℕ) → m ≤ q → get_or classes q 0 ≡ get_or raw q 0
    pub named : (q : ℕ) → base ≤ get_or raw q 0 → get_or classes q 0 ≡ get_or raw q 0
    -- another class is a place that is not later
    pub low : (q : ℕ) → q < m → Marked raw q → get_or classes q 0 ≤ q
    -- equal classes exactly for equal keys
    pub same : (q r : ℕ) → q < m → r < m → Marked raw q → Marked raw r → (get_or classes q 0 ≡ get_or classes r 0) ↔ (key q ≡ key r)
    -- heads and links name places before m that have a mark
    pub sound : (i r : ℕ) → get_or chains i 0 ≡ suc r → (r < m) × Marked raw r
    pub falls : Falls chains
    -- the chain of a place's mark has one with its key
    pub found : (q : ℕ) → q < m → Marked raw q → (l : ℕ) × (key l ≡ key q) × InChain chains (get_or chains (chain_of (length chains) (get_or raw q 0)) 0) l
