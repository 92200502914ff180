-- A leaf: a variable's value, or a name.
use Prim.Native.Nat.{ℕ, ◌+◌, ◌-◌, ◌<◌, ◌≤◌}
use mathlib.Core.List.{List, ◌++◌}
use mathlib.Core.Path.{◌≡◌, refl, ap, sym, ◌∙◌, subst}
use native.Mathlib.Omega.{arith}
use lib.ListN.{length, take, drop, get_or, length-append}
use Rattle.lists.specs.Asks.{Asks₂, Promises₂}
use Rattle.octets.specs.Head.{Stands, stands_at, stands_within, stands_part}
use Rattle.octets.specs.Splice.{splice}
use Rattle.octets.specs.Splice.Prefix.{Wrote, widen, wrote_then}
use Rattle.number.specs.Groups.{groups, number_limit}
use Rattle.term.specs.Term.{Kind, variable, public, fresh, Term, leaf, encode}
use Rattle.term.specs.Term.Laws.{encode_some}
use Rattle.message.specs.Substitution.{sub}
use Rattle.canonical.specs.Inner.{LeafJob}
use Rattle.canonical.proofs.Writes.{spliced}

module _ (vals starts : List ℕ) (n o tag number : ℕ) where
  -- ── a variable ──
  pub record Taken (θ : ℕ → Term) (k : Kind) : Type 0 where
    pub is : k ≡ variable
    pub listed : number + 1 < length starts
    pub stands : Stands vals (get_or starts number 0) (encode (θ number)) (get_or starts (number + 1) 0)
    pub fits : o + length (encode (θ number)) ≤ n

  pub value_of : (θ : ℕ → Term) (k : Kind) → tag ≡ 0 → LeafJob vals starts n o tag number θ k → Taken θ k
  value_of θ variable z j =
      let v = j.values number refl in
      record {
        is = refl;
        listed = v.listed;
        stands = rw v.ends (stands_at vals (get_or starts number 0) (encode (θ number)) v.rest v.there);
        fits = j.room;
      }
  value_of θ public z j = absurd (omega (arith, j.kind))
  value_of θ fresh z j = absurd (omega (arith, j.kind))

  -- its bytes are a part of the values, and there is room for them
  pub record Fits (from to : ℕ) : Type 0 where
    pub order : from ≤ to
    pub within : to ≤ length vals
    pub room : o + (to - from) ≤ n

  pub value_fits : tag ≡ 0 → Asks₂ (LeafJob vals starts n o tag number) → Fits (get_or starts number 0) (get_or starts (number + 1) 0)
  value_fits z (θ, k, j) =
      let v = value_of θ k z j in
      let e = v.stands.ends in
      record {
        order = omega arith;
        within = stands_within v.stands (encode_some (θ number));
        room = omega (arith, v.fits);
      }

  -- ── a name ──
  pub record Named (θ : ℕ → Term) (k : Kind) : Type 0 where
    pub is : encode (sub θ (leaf k number)) ≡ groups tag ++ groups number
    pub tag_range : tag < number_limit
    pub number_range : number < number_limit
    pub fits : o + length (groups tag) + length (groups number) ≤ n

  named : (θ : ℕ → Term) (k : Kind) → encode (sub θ (leaf k number)) ≡ groups tag ++ groups number → tag < 3
      → LeafJob vals starts n o tag number θ k → Named θ k
  unfolding number_limit
  named θ k q l j = record {
    is = q;
    tag_range = omega arith;
    number_range = j.range;
    fits = omega (arith, j.room, ap length q, length-append (groups tag) (groups number));
  }

  pub name_of : (θ : ℕ → Term) (k : Kind) → (tag ≡ 0 → ⊥) → LeafJob vals starts n o tag number θ k → Named θ k
  name_of θ variable z j = absurd (z j.kind)
  name_of θ public z j = named θ public (ap (λ (i : ℕ). groups i ++ groups number) (sym j.kind)) (omega (arith, j.kind)) j
  name_of θ fresh z j = named θ fresh (ap (λ (i : ℕ). groups i ++ groups number) (sym j.kind)) (omega (arith, j.kind)) j

module _ (vals starts out : List ℕ) (o tag number : ℕ) where
  pub value_done :
      tag ≡ 0 → (from to : ℕ) (part out' : List ℕ) (r : ℕ) → from ≡ get_or starts number 0 → to ≡ get_or starts (number + 1) 0
      → part ≡ take (to - from) (drop from vals) → r ≡ o + length part → out' ≡ splice out o part
      → Promises₂ (LeafJob vals starts (length out) o tag number) (λ (θ : ℕ → Term) (k : Kind). Wrote r out o out' r (encode (sub θ (leaf k number))))
  value_done z from to part out' r f t p e w θ k j =
      let v = value_of vals starts (length out) o tag number θ k z j in
      let q : part ≡ encode (θ number) = p ∙ rw (f, t) (stands_part v.stands) in
      subst (λ (i : Kind). Wrote r out o out' r (encode (sub θ (leaf i number)))) (sym v.is)
      (spliced out o (encode (θ number)) out' r v.fits (e ∙ ap (λ (l : List ℕ). o + length l) q) (w ∙ ap (splice out o) q))

  pub name_done :
      (tag ≡ 0 → ⊥) → (out₁ out' : List ℕ) (a r : ℕ) → Wrote a out o out₁ a (groups tag) → Wrote r out₁ a out' r (groups number)
      → Promises₂ (LeafJob vals starts (length out) o tag number) (λ (θ : ℕ → Term) (k : Kind). Wrote r out o out' r (encode (sub θ (leaf k number))))
  name_done z out₁ out' a r v w θ k j =
      let q = name_of vals starts (length out) o tag number θ k z j in
      subst (λ (l : List ℕ). Wrote r out o out' r l) (sym q.is) (wrote_then (widen r (omega (arith, w.ends)) v) w)
