-- A table of factors: an entry for each, with the places of its bytes and its exponent.
use Rattle.std.specs.Prelude.{ℕ, ◌+◌, ◌-◌, ◌≤◌, ◌<◌, ◌≡◌, Bool, true, false, List, length, take, drop, get_or, ℤ, pos, Result, Ok, Err}
use Rattle.octets.specs.Compare.{compare_bytes}
use Rattle.octets.specs.Head.{Stands}
use Rattle.std.specs.declared.cmp.Ordering.{Ordering}
use Rattle.std.specs.declared.cmp.Ordering.TheVariants.{Less, Equal, Greater}
use Rattle.term.specs.Term.{encode}
use Rattle.message.specs.Product.{Exps, empty, part}
use Rattle.factors.specs.declared.Entry.{Entry}
use Rattle.factors.specs.Mass.{size}
-- entering a factor
pub mod Laws

-- entry i
abbrev pub entry : List Entry → ℕ → Entry
entry T i = get_or T i (record { start = 0; end = 0; power = pos 0 })

abbrev pub power_of : List Entry → ℕ → ℤ
power_of T i = (entry T i).power

-- the entries from i on are the factors l: their bytes at their places in src, and their exponents
unfoldable pub Rows : List ℕ → List Entry → ℕ → Exps → Type 0
Rows src T i empty = Unit {0}
Rows src T i (part t k l) = Stands src (entry T i).start (encode t) (entry T i).end × (power_of T i ≡ k) × Rows src T (i + 1) l

-- n entries are the factors l
pub record Table (src : List ℕ) (T : List Entry) (n : ℕ) (l : Exps) : Type 0 where
  pub rows : Rows src T 0 l
  pub many : size l ≡ n

-- ── finding a place ──
-- each entry is a part of src
abbrev pub Bounds : List ℕ → List Entry → Type 0
Bounds src T = (j : ℕ) → j < length T → ((entry T j).start ≤ (entry T j).end) × ((entry T j).end ≤ length src)

-- the bytes of entry j
abbrev pub bytes_at : List ℕ → List Entry → ℕ → List ℕ
bytes_at src T j = take ((entry T j).end - (entry T j).start) (drop (entry T j).start src)

-- the entries ascend
abbrev pub Rising : List ℕ → List Entry → Type 0
Rising src T = (i j : ℕ) → i < j → j < length T → compare_bytes (bytes_at src T i) (bytes_at src T j) ≡ Less

-- the order of these bytes and the entry j
abbrev pub order_at : List ℕ → List ℕ → List Entry → ℕ → Ordering
order_at key src T j = compare_bytes key (bytes_at src T j)

abbrev pub meeting : Bool → Ordering
meeting true = Equal
meeting false = Less

pub record Found (key src : List ℕ) (T : List Entry) (at : ℕ) (same : Bool) : Type 0 where
  pub within : at ≤ length T
  pub before : (j : ℕ) → j < at → order_at key src T j ≡ Greater
  pub here : at < length T → order_at key src T at ≡ meeting same
  pub end : same ≡ true → at < length T

abbrev pub FoundAt : List ℕ → List ℕ → List Entry → Result ℕ ℕ → Type 0
FoundAt key src T (Ok at) = Found key src T at true
FoundAt key src T (Err at) = Found key src T at false
