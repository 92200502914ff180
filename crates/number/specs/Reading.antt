-- Reading by place: what stands there and the place behind it, or a fault. A number; one thing after another; n of them; a count and
-- that many. Every file of document 01 is a reader made of these.
use Rattle.std.specs.Prelude.{ℕ, zero, suc, ◌+◌, ◌-◌, ◌*◌, List, [], ◌∷◌, Bool, length, get_or, ltb, eqb, Option, Some, None}
use Rattle.lists.specs.Choice.{pick}
use Rattle.number.specs.Groups.{base, most_groups}
-- one thing after another
pub mod Laws
-- n of them
pub mod Many
-- numbers: what is written reads back, and what reads is written so
pub mod Numbers
-- numbers, group by group
pub mod Stepwise

pub data Read (A : Type 0) : Type 0 where
  got : A → ℕ → Read A
  fault : Read A

module _ {A B : Type 0} where
  abbrev pub and_then : Read A → (A → ℕ → Read B) → Read B
  and_then (got x e) f = f x e
  and_then fault f = fault

-- groups of value `low`, and then the rest, which counts `weight` times and is not zero in the shortest form
abbrev pub joined : ℕ → ℕ → Read ℕ → Read ℕ
joined low weight (got v e) = pick (eqb v 0) fault (got (low + weight * v) e)
joined low weight fault = fault

-- a group that another follows: its seven bits, and then the rest
abbrev pub longer : ℕ → Read ℕ → Read ℕ
longer b r = joined (b - base) base r

-- a number of at most k groups
unfoldable pub read_in : ℕ → List ℕ → ℕ → Read ℕ
read_in zero file at = fault
read_in (suc k) file at =
    pick (ltb at (length file))
    (pick (ltb (get_or file at 0) base) (got (get_or file at 0) (at + 1)) (longer (get_or file at 0) (read_in k file (at + 1))))
    fault

-- a number
unfoldable pub read_number : List ℕ → ℕ → Read ℕ
read_number file at = read_in most_groups file at

-- a number below n
unfoldable pub below : List ℕ → ℕ → ℕ → Read ℕ
below file n at = and_then (read_number file at) (λ v e. pick (ltb v n) (got v e) fault)

module _ {A : Type 0} where
  -- n of them, one after another
  unfoldable pub many : (ℕ → Read A) → ℕ → ℕ → Read (List A)
  many p zero at = got [] at
  many p (suc n) at = and_then (p at) (λ x e. and_then (many p n e) (λ xs f. got (x ∷ xs) f))

  -- a count, `limit` at most, and that many
  unfoldable pub counted : List ℕ → ℕ → (ℕ → Read A) → ℕ → Read (List A)
  counted file limit p at = and_then (below file (limit + 1) at) (λ n e. many p n e)

  -- ── what code answers of a reading ──
  -- the place behind it, and a test of what was read
  abbrev pub seen : (A → Bool) → Read A → Option (ℕ × Bool)
  seen q (got x e) = Some (e, q x)
  seen q fault = None

-- a number
abbrev pub as_read : Option (ℕ × ℕ) → Read ℕ
as_read (Some (v, e)) = got v e
as_read None = fault
