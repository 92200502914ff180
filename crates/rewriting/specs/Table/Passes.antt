-- The passes: a Boolean test with a fixed item, a bound, the least element that fails a test.
use Rattle.std.specs.Prelude.{◌≡◌, refl, Bool, true, false, cond, not, List, ℕ, suc, ◌<◌, ltb}
use Rattle.std.proofs.Common.{ap, arith}
use Rattle.std.specs.Prelude.{Some, None}
use Rattle.lists.specs.Tests.{true_false, not_split, le_leb, leb_le}
use Rattle.lists.specs.Lists.{first_bad}
use Rattle.rewriting.specs.Table.Laws.{finds_iff}
use Rattle.rewriting.specs.Table.Scans.{Hit, scan_finds}
use Rattle.rewriting.specs.Table.{row, fixed_row, Fails, Finds, Pass}

-- A cause under another name.
abbrev pub restated : (p : Pass) (Q : ℕ → Type 0) → ((k : ℕ) → p.cause.has k → Q k) → ((k : ℕ) → Q k → p.cause.has k) → Pass
restated p Q f g = record { cause = row p.cause.number Q; found = p.found; finds = finds_iff p.cause.has Q f g p.found p.finds }

-- A cause with one item, found by a Boolean test.
pub tested : (i : ℕ) (P : Type 0) (b : Bool) → (b ≡ true → P) → (P → b ≡ true) → Finds (λ k. (k ≡ i) × P) (cond b (Some i) None)
tested i P true to fro = record { here = (refl, to refl); below = λ j l h. omega (arith, h.0) }
tested i P false to fro = λ k h. true_false false (fro h.1) refl

abbrev pub test_pass : (n i : ℕ) (P : Type 0) (b : Bool) → (b ≡ true → P) → (P → b ≡ true) → Pass
test_pass n i P b to fro = record { cause = fixed_row n i P; found = cond b (Some i) None; finds = tested i P b to fro }

-- A size and a bound: `m` is less than `l`. The item is 0 or a file (a limit below a length), or the bytes needed themselves.
abbrev pub less_pass : (n i m l : ℕ) → Pass
less_pass n i m l = test_pass n i (m < l) (ltb m l) (leb_le (suc m) l) (le_leb (suc m) l)

abbrev pub need_pass : (n room need : ℕ) → Pass
need_pass n room need = less_pass n need room need

-- The smallest number of an element that fails a test.
pub first_bad_lem : {A : Type 0} (ok : ℕ → A → Bool) (xs : List A) → Finds (Fails ok xs) (first_bad ok 1 xs)
first_bad_lem {A} ok xs =
    finds_iff (Hit bad keep tt xs) (Fails ok xs)
    (λ k h. record { which = h.which; stands = h.stands; is_false = not_split (ok k h.which) h.is_bad })
    (λ k h. record { which = h.which; stands = h.stands; is_bad = ap not h.is_false })
    (first_bad ok 1 xs) (scan_finds bad keep tt xs)
  where
    bad : ℕ → Unit {0} → A → Bool
    bad k s x = not (ok k x)

    keep : Unit {0} → A → Unit {0}
    keep s x = s

abbrev pub least_pass : {A : Type 0} → ℕ → (ℕ → A → Bool) → List A → Pass
least_pass n ok xs = record { cause = row n (Fails ok xs); found = first_bad ok 1 xs; finds = first_bad_lem ok xs }
