-- A part of the output that starts at o, lent.
use Prim.Native.Nat.{ℕ, ◌+◌, ◌-◌, ◌≤◌}
use mathlib.Core.List.{List}
use mathlib.Core.Path.{refl, subst}
use native.Mathlib.Omega.{arith}
use lib.ListN.{length, take, drop}
use borrow.Rule.Slice.PartMut.{put_mid}
use Rattle.octets.specs.Limits.{longest}
use Rattle.message.specs.Filled.{filleds}
use Rattle.lists.specs.Asks.{Asks₂, Promises₂}
use Rattle.octets.specs.Splice.Prefix.{Wrote, widen, lent_length, wrote_lent}
use Rattle.term.specs.Term.{Term, Terms, encodes}
use Rattle.term.specs.Arity.{arity}
use Rattle.term.specs.Sizes.{term_room}
use Rattle.message.specs.Substitution.{subs}
use Rattle.message.specs.Substitution.Laws.{subs_formed}
use Rattle.canonical.specs.Builtins.{group}
use Rattle.canonical.specs.Loose.{outside, mades}
use Rattle.canonical.specs.Loose.Laws.{Sounds, sounds, all_are}
use Rattle.canonical.specs.Contract.{Job, Out}

abbrev part : List ℕ → ℕ → List ℕ
part out o = take (length out - o) (drop o out)

module _ (arities vals starts src : List ℕ) (at k : ℕ) (out : List ℕ) (o : ℕ) where
  part_job : (θ : ℕ → Term) (ts : Terms) → Job arities vals starts src at k (length out) o θ ts
      → Job arities vals starts src at k (length (part out o)) 0 θ ts
  part_job θ ts J = record {
    table = J.table;
    many = J.many;
    formed = J.formed;
    range = J.range;
    rest = J.rest;
    there = J.there;
    values = J.values;
    small = J.small;
    room = omega (arith, J.room, lent_length out o);
    short = omega (arith, J.short, lent_length out o);
    values_short = J.values_short;
  }

  pub part_ready : Asks₂ (Job arities vals starts src at k (length out) o) → Asks₂ (Job arities vals starts src at k (length (part out o)) 0)
  part_ready (θ, ts, J) = (θ, ts, part_job θ ts J)

  made_sounds :
      (θ : ℕ → Term) (ts : Terms) (J : Job arities vals starts src at k (length out) o θ ts)
      → Sounds (arity arities) (group arities J.table) θ outside ts
  made_sounds θ ts J =
      sounds (arity arities) (group arities J.table) θ ts outside (subs_formed (arity arities) θ ts J.formed (λ v i. (J.values v i).formed))
      (λ v i. (J.values v i).own)

  module _ (ys : List ℕ) (at' r : ℕ) (M : Promises₂ (Job arities vals starts src at k (length (part out o)) 0)
      (λ (θ : ℕ → Term) (ts : Terms). Out (0 + length (encodes (subs θ ts)) + term_room) at (part out o) 0 ys at' r (encodes ts) (encodes (mades outside θ ts))))
    where
      pub part_ends : Asks₂ (Job arities vals starts src at k (length out) o) → (o + r ≤ length out) × (length out ≤ longest)
      part_ends (θ, ts, J) =
          let m = M θ ts (part_job θ ts J) in
          (omega (arith, m.wrote.ends, (made_sounds θ ts J).sizes.bytess_less, J.room), J.short)

      pub part_done : Promises₂ (Job arities vals starts src at k (length out) o) (λ (θ : ℕ → Term) (ts : Terms). Out
          (o + length (encodes (subs θ ts)) + term_room) at out o
          (put_mid o (length out - o) out ys) at' (o + r) (encodes ts) (encodes (filleds θ ts)))
      part_done θ ts J =
          let m = M θ ts (part_job θ ts J) in
          let n : ℕ = length (encodes (subs θ ts)) in
          let w = wrote_lent out ys (0 + n + term_room) o r (encodes (mades outside θ ts)) (omega (arith, J.room)) m.wrote in
          let out' : List ℕ = put_mid o (length out - o) out ys in
          record {
            read = m.read;
            wrote = subst (λ (us : Terms). Wrote (o + n + term_room) out o out' (o + r) (encodes us))
                (all_are (arity arities) (group arities J.table) θ ts outside refl (λ z. omega (arith, z)) (made_sounds θ ts J).are_made)
                (widen (o + n + term_room) (omega arith) w);
          }
