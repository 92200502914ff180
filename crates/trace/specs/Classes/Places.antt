-- The class of one place more.
use Rattle.std.specs.Prelude.{ℕ, suc, ◌+◌, ◌*◌, ◌%◌, ◌≤◌, ◌<◌, List, Bool, true, false, ◌≡◌, refl, length, get_or, set, ltb}
use Rattle.std.specs.Prelude.{Option, Some, None}
use Rattle.std.proofs.Common.{ap, sym, ◌∙◌, subst, arith, ltb-true}
use Rattle.lists.specs.Choice.{pick}
use Rattle.message.specs.Canon.{canon}
use Rattle.protocol.specs.Protocol.{Fact, Protocol}
use Rattle.steps.specs.Nodes.{Node}
use Rattle.steps.specs.Values.Parts.{no_term}
use Rattle.trace.specs.Tables.{base, stride, place_count, most_actions, actions_in}
use Rattle.trace.specs.Entries.Laws.{actions_few, total_few}
use Rattle.trace.specs.Chains.{chain_of, HeadsBehind, InChain, Classed, Marked}
use Rattle.trace.specs.Chains.Laws.{chain_has}
use Rattle.trace.specs.Chains.Steps.{head_low, classed_past, classed_same, classed_new}
use Rattle.trace.specs.Numbers.{form_number, argument_number, place_number, NumberedTo}
use Rattle.trace.specs.Numbers.Places.{numbered_at}
use Rattle.trace.specs.Classes.{action_at, key_at, IsPlace, Walkable, Earlier, Classing, Ready}

-- ── a place with a mark ──
argument_marked :
    (f : Fact) (j : ℕ) → argument_number f j < base → (j < length f.terms) × (argument_number f j ≡ form_number (canon (get_or f.terms j no_term)))
unfolding argument_number
argument_marked f j l = go (ltb j (length f.terms)) refl
  where
    go : (b : Bool) → ltb j (length f.terms) ≡ b → (j < length f.terms) × (argument_number f j ≡ form_number (canon (get_or f.terms j no_term)))
    go true e = (ltb-true j (length f.terms) e, ap (λ (b : Bool). pick b (form_number (canon (get_or f.terms j no_term))) base) e)
    go false e = absurd (omega (arith, l, ap (λ (b : Bool). pick b (form_number (canon (get_or f.terms j no_term))) base) e))

module _ {raw : List ℕ} {P : Protocol} {xs : List Node} (t : NumberedTo raw (stride * length (actions_in P xs)) P xs) where
  module _ (q : ℕ) (l : q < stride * length (actions_in P xs)) (marked : get_or raw q 0 < base) where
    number_at : place_number P xs q < base
    number_at = omega (arith, t.each q l, marked)

    marked_place : IsPlace P xs q
    marked_place = record { entry = omega (arith, l); argument = (argument_marked (action_at P xs q) (q % stride) number_at).0 }

    marked_number : get_or raw q 0 ≡ form_number (key_at P xs q)
    unfolding key_at
    marked_number = t.each q l ∙ (argument_marked (action_at P xs q) (q % stride) number_at).1

-- ── one place ──
module _ {p s nodes entries classes chains : List ℕ} {m : ℕ} {raw : List ℕ} {P : Protocol} {xs : List Node}
    (g : Classing p s nodes entries classes chains m raw P xs) where
  pub classing_small : m < place_count
  classing_small = omega (arith, g.less, actions_few g.listed.right)

  same_raw : get_or classes m 0 ≡ get_or raw m 0
  same_raw = g.classed.kept m (omega arith)

  pub class_past : base ≤ get_or classes m 0 → Classed (key_at P xs) raw classes chains (m + 1)
  class_past h = classed_past (key_at P xs) raw g.classed (omega (arith, h, same_raw))

  module _ (marked : get_or classes m 0 < base) where
    is_marked : Marked raw m
    is_marked = omega (arith, marked, same_raw)

    places : (i r : ℕ) → get_or chains i 0 ≡ suc r → IsPlace P xs r
    places i r e =
        let s = g.classed.sound i r e in marked_place g.numbered r (omega (arith, s.0, g.less)) s.1

    pub classing_walkable : (chain : ℕ) → Walkable p s nodes entries chains (get_or chains chain 0) m P xs
    classing_walkable chain = record {
      listed = g.listed;
      place = marked_place g.numbered m g.less is_marked;
      first = places chain;
      links = places;
      low = head_low (key_at P xs) raw g.classed chain;
      falls = g.classed.falls;
    }

    marks : (q r : ℕ) → q < m + 1 → r < m + 1 → Marked raw q → Marked raw r → key_at P xs q ≡ key_at P xs r
        → get_or raw q 0 ≡ get_or raw r 0
    marks q r l n k j e =
        marked_number g.numbered q (omega (arith, l, g.less)) k ∙ ap form_number e
        ∙ sym (marked_number g.numbered r (omega (arith, n, g.less)) j)

    module _ (room : m < length classes) (chain : ℕ) {o : Option ℕ} (a : Earlier (key_at P xs) chains (get_or chains chain 0) m o) where
      found_before : (r : ℕ) → o ≡ Some r → (r < m) × Marked raw r
      found_before r e =
          chain_has (λ q. (q < m) × Marked raw q) g.classed.sound (a.somewhere r e).0 (g.classed.sound chain)

      pub found_small : (r : ℕ) → o ≡ Some r → (r < m) × (r < length classes)
      found_small r e = let l = (found_before r e).0 in (l, omega (arith, l, room))

      pub class_found : (r : ℕ) → o ≡ Some r → Classed (key_at P xs) raw (set classes m (get_or classes r 0)) chains (m + 1)
      class_found r e =
          let (l, k) = found_before r e in
          classed_same (key_at P xs) raw g.classed room is_marked marks r l k (a.somewhere r e).1

      module _ (is : chain ≡ chain_of (length chains) (get_or classes m 0)) where
        -- the chain of its mark would have one with its form
        new : o ≡ None → (q : ℕ) → q < m → Marked raw q → key_at P xs q ≡ key_at P xs m → ⊥
        new z q l k e =
            let (x, d, i) = g.classed.found q l k in
            a.nowhere z x
            (subst (λ (j : ℕ). InChain chains (get_or chains j 0) x)
            (ap (chain_of (length chains)) (marks q m (omega arith) (omega arith) k is_marked e ∙ sym same_raw) ∙ sym is) i) (d ∙ e)

        pub class_new :
            o ≡ None → HeadsBehind (length chains) (m + 1)
            → Classed (key_at P xs) raw (set classes m m)
            (set (set chains m (get_or chains chain 0)) chain (m + 1)) (m + 1)
        class_new z behind =
            subst (λ (j : ℕ). Classed (key_at P xs) raw (set classes m m) (set (set chains m (get_or chains j 0)) j (m + 1)) (m + 1))
            (ap (chain_of (length chains)) (sym same_raw) ∙ sym is)
            (classed_new (key_at P xs) raw g.classed room is_marked marks (new z) behind)

-- ── all places ──
module _ {p s nodes entries raw : List ℕ} {total : ℕ} {P : Protocol} {xs : List Node} (r : Ready p s nodes entries raw total P xs) where
  pub ready_few : total ≤ most_actions
  ready_few = total_few r.all

  pub ready_classing :
      {classes chains : List ℕ} (m : ℕ) → m < stride * total → Classed (key_at P xs) raw classes chains m
      → Classing p s nodes entries classes chains m raw P xs
  ready_classing m l c =
      let e : stride * total ≡ stride * length (actions_in P xs) = omega (arith, r.all.count) in
      record {
        listed = r.all.listed;
        numbered = numbered_at (stride * total) (stride * length (actions_in P xs)) e r.numbered;
        less = omega arith;
        classed = c;
      }
