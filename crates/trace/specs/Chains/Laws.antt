-- What is in a chain.
use Rattle.std.specs.Prelude.{ℕ, suc, ◌+◌, ◌%◌, ◌≤◌, ◌<◌, List, Bool, ◌≡◌, get_or}
use Rattle.std.proofs.Math.Path.{ap}
use Rattle.std.proofs.Common.{sym, subst, arith, lt-ltb, le-ltb}
use Rattle.lists.specs.Choice.{pick, by_size}
use Rattle.trace.specs.Tables.{place_count}
use Rattle.trace.specs.Chains.{most_heads, most_chains, few_heads, few_places, few_chains, chain_of, HeadsBehind, InChain, here, later, Falls}

-- ── where the heads are ──
module _ {size : ℕ} (mark : ℕ) where
  pub chain_few : size < most_chains → chain_of size mark ≡ few_places + mark % few_heads
  unfolding chain_of
  chain_few l = ap (λ (b : Bool). pick b (few_places + mark % few_heads) (place_count + mark % most_heads)) (lt-ltb size most_chains l)

  pub chain_many : most_chains ≤ size → chain_of size mark ≡ place_count + mark % most_heads
  unfolding chain_of
  chain_many l = ap (λ (b : Bool). pick b (few_places + mark % few_heads) (place_count + mark % most_heads)) (le-ltb size most_chains l)

pub chain_small : (size mark : ℕ) → chain_of size mark < most_chains
chain_small size mark = by_size size most_chains (λ l. omega (arith, chain_few {size = size} mark l)) (λ l. omega (arith, chain_many {size = size} mark l))

pub behind_less : {size m n : ℕ} → HeadsBehind size n → m ≤ n → HeadsBehind size m
behind_less h l mark = let (a, b) = h mark in (omega (arith, a, l), b)

pub few_behind : {m : ℕ} → m ≤ few_places → HeadsBehind few_chains m
few_behind l mark = let e = chain_few {size = few_chains} mark (omega arith) in (omega (arith, e, l), omega (arith, e))

pub most_behind : {m : ℕ} → m ≤ place_count → HeadsBehind most_chains m
most_behind l mark = let e = chain_many {size = most_chains} mark (omega arith) in (omega (arith, e, l), omega (arith, e))

-- ── in a chain ──

pub chain_ends : {chains : List ℕ} {h l : ℕ} → InChain chains h l → h ≡ 0 → ⊥
chain_ends (here e) z = omega arith
chain_ends (later r e c) z = omega arith

-- what the head is not is behind it
pub chain_behind : {chains : List ℕ} {h l : ℕ} → InChain chains h l → (r : ℕ) → h ≡ suc r → (l ≡ r → ⊥) → InChain chains (get_or chains r 0) l
chain_behind (here e) r h n = absurd (n (omega arith))
chain_behind {chains} (later {l = l} q e c) r h n =
    let z : q ≡ r = omega arith in subst (λ (i : ℕ). InChain chains (get_or chains i 0) l) z c

-- what holds of all that heads and links name holds of all in a chain
pub chain_has :
    {chains : List ℕ} (P : ℕ → Type 0) → ((i r : ℕ) → get_or chains i 0 ≡ suc r → P r) → {h l : ℕ} → InChain chains h l → ((r : ℕ) → h ≡ suc r → P r) → P l
chain_has P sound (here {l = l} e) first = first l e
chain_has P sound (later r e c) first = chain_has P sound c (λ q z. sound r q z)

-- chains below a place stay where no link of them is changed
pub chain_kept :
    {chains : List ℕ} (chains' : List ℕ) (m : ℕ) → Falls chains → ((r : ℕ) → r < m → get_or chains' r 0 ≡ get_or chains r 0)
    → {h l : ℕ} → InChain chains h l → h ≤ m → InChain chains' h l
chain_kept chains' m falls same (here e) b = here e
chain_kept {chains} chains' m falls same (later {l = l} r e c) b =
    later r e
    (subst (λ (h : ℕ). InChain chains' h l) (sym (same r (omega arith))) (chain_kept chains' m falls same c (omega (arith, falls r, e, b))))
