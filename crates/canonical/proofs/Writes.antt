-- Writes in prefix form.
use Prim.Native.Nat.{ℕ, ◌+◌, ◌-◌, ◌≤◌, ◌<◌}
use mathlib.Core.List.{List}
use mathlib.Core.Path.{◌≡◌, ap, ◌∙◌}
use native.Mathlib.Omega.{arith}
use lib.ListN.{length, take, drop, length-drop}
use lib.Seq.{length-take-le}
use Rattle.lists.specs.Asks.{Promises}
use Rattle.octets.specs.Head.{stands_part, Stands}
use Rattle.octets.specs.Splice.{splice}
use Rattle.octets.specs.Splice.Prefix.{Wrote, splice_wrote}
use Rattle.number.specs.Groups.{number_limit}

-- what a file's number is below
pub number_small : (n : ℕ) → n < number_limit → n < 4294967296
unfolding number_limit
number_small n h = omega arith

-- how long a part is
pub part_length : (s : List ℕ) (from to : ℕ) → from ≤ to → to ≤ length s → length (take (to - from) (drop from s)) ≡ to - from
part_length s from to a b = length-take-le (to - from) (drop from s) (rw length-drop (omega arith))

-- a splice as a write
pub spliced :
    (out : List ℕ) (o : ℕ) (q : List ℕ) (out' : List ℕ) (r : ℕ) → o + length q ≤ length out → r ≡ o + length q → out' ≡ splice out o q
    → Wrote r out o out' r q
spliced out o q out' r room e w = rw (e, w) (splice_wrote out o q room)

pub moved :
    (out : List ℕ) (o from to : ℕ) (out' : List ℕ) (r : ℕ) → o ≤ from → from ≤ to → to ≤ length out
    → out' ≡ splice out o (take (to - from) (drop from out)) → r ≡ o + (to - from) → Promises (λ (q : List ℕ). Stands out from q to)
    (λ (q : List ℕ). Wrote r out o out' r q)
moved out o from to out' r a b c w e q st =
    let p : take (to - from) (drop from out) ≡ q = stands_part st in
    spliced out o q out' r (omega (arith, st.ends)) (omega (arith, st.ends)) (w ∙ ap (splice out o) p)
