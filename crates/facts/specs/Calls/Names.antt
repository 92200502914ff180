-- A public name as it is written: its tag and its number.
use Rattle.std.specs.Prelude.{ℕ, ◌+◌, ◌^◌, ◌≤◌, ◌<◌, List, ◌≡◌, length}
use Rattle.std.proofs.Common.{ap, sym, subst₂, arith, length-append}
use Rattle.octets.specs.Splice.{splice}
use Rattle.octets.specs.Splice.Laws.{length_splice}
use Rattle.octets.specs.Splice.Prefix.{Wrote, widen, splice_wrote, wrote_then}
use Rattle.number.specs.Groups.{groups}
use Rattle.number.specs.Groups.Laws.{groups_one, groups_few}
use Rattle.term.specs.Term.{public, leaf, encode}
use Rattle.facts.specs.Writing.{fact_room, Put}
use Rattle.facts.specs.Calls.{Room}

tag_few : length (groups 1) ≡ 1
tag_few = ap length (groups_one 1 (omega arith))

name_few : (n : ℕ) → n < 2 ^ 32 → length (groups n) ≤ 5
name_few n h = groups_few 4 n (omega arith)

module _ (out : List ℕ) (o : ℕ) (room : Room out o) where
  pub tag_room : o + length (groups 1) ≤ length out
  tag_room = omega (arith, room.enough, tag_few)

  module _ (out₁ : List ℕ) (e : ℕ) (he : e ≡ o + length (groups 1)) (h : out₁ ≡ splice out o (groups 1)) (n : ℕ) (small : n < 2 ^ 32) where
    pub name_room : e + length (groups n) ≤ length out₁
    name_room =
        omega (arith, room.enough, tag_few, name_few n small, ap length h, length_splice out o (groups 1) tag_room)

    pub name_put : (out₂ : List ℕ) (r : ℕ) → r ≡ e + length (groups n) → out₂ ≡ splice out₁ e (groups n) → Put out o out₂ r (encode (leaf public n))
    name_put out₂ r hr k =
        let a : Wrote (o + fact_room) out o out₁ e (groups 1) =
        subst₂ (λ (l : List ℕ) (i : ℕ). Wrote (o + fact_room) out o l i (groups 1)) (sym h) (sym he)
        (widen (o + fact_room) (omega (arith, tag_few)) (splice_wrote out o (groups 1) tag_room)) in
        let b : Wrote (o + fact_room) out₁ e out₂ r (groups n) =
        subst₂ (λ (l : List ℕ) (i : ℕ). Wrote (o + fact_room) out₁ e l i (groups n)) (sym k) (sym hr)
        (widen (o + fact_room) (omega (arith, tag_few, name_few n small)) (splice_wrote out₁ e (groups n) name_room)) in
        record {
          wrote = wrote_then a b;
          few = omega (arith, length-append (groups 1) (groups n), tag_few, name_few n small);
        }
