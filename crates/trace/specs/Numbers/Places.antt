-- The first numbers, place by place.
use Rattle.std.specs.Prelude.{ℕ, ◌+◌, ◌*◌, ◌/◌, ◌%◌, ◌≤◌, ◌<◌, List, Bool, ◌≡◌, length, get_or, set}
use Rattle.std.proofs.Common.{ap, ap₂, ◌∙◌, subst, arith, get_or-set_same, get_or-set_other, lt-ltb, le-ltb}
use Rattle.std.proofs.Math.Path.{sym}
use Rattle.lists.specs.Asks.{Promises₃}
use Rattle.lists.specs.Choice.{pick, by_order}
use Rattle.lists.specs.All.Laws.{all_inside}
use Rattle.message.specs.Canon.{canon}
use Rattle.protocol.specs.Protocol.{Protocol, no_fact}
use Rattle.steps.specs.Nodes.{Node, no_node}
use Rattle.steps.specs.Table.Laws.{node_in}
use Rattle.steps.specs.Values.{NodeRight}
use Rattle.facts.specs.declared.nodes.FactId.{FactId}
use Rattle.facts.specs.Calls.{fact_at, argument_at, ListedFact, OneOf}
use Rattle.facts.specs.Calls.Laws.{fact_listed}
use Rattle.trace.specs.Tables.{base, stride, actions_in}
use Rattle.trace.specs.Entries.{action_id, Listed}
use Rattle.trace.specs.Numbers.{form_number, argument_number, Counted, ActionOf, NumberedTo}

-- ── an action ──
module _ {p s nodes : List ℕ} {a : FactId} {count : ℕ} {P : Protocol} {x : Node} (f : Counted p s nodes a count P x) (j : ℕ) where
  pub counted_one : j < count → OneOf p s nodes a j P x
  counted_one l = record { node = f.whole.node; right = f.whole.right; listed = f.whole.listed; has = omega (arith, f.counted) }

  pub argument_there :
      j < count → (r : ℕ) → r ≡ form_number (canon (argument_at P a.list a.number j x)) → r ≡ argument_number (fact_at P a.list a.number x) j
  unfolding argument_number
  argument_there l r h =
      h ∙ sym (ap (λ (b : Bool). pick b (form_number (canon (argument_at P a.list a.number j x))) base)
      (lt-ltb j (length (fact_at P a.list a.number x).terms) (omega (arith, f.counted))))

  pub argument_missing : count ≤ j → base ≡ argument_number (fact_at P a.list a.number x) j
  unfolding argument_number
  argument_missing l =
      sym (ap (λ (b : Bool). pick b (form_number (canon (argument_at P a.list a.number j x))) base)
      (le-ltb j (length (fact_at P a.list a.number x).terms) (omega (arith, f.counted))))

pub action_counted :
    {p s nodes : List ℕ} {a : FactId} {e : ℕ} {P : Protocol} {xs : List Node} → ActionOf p s nodes a e P xs → (count : ℕ)
    → Promises₃ (ListedFact p nodes a) (λ (t : List ℕ) (Q : Protocol) (x : Node). count ≡ length (fact_at Q a.list a.number x).terms)
    → Counted p s nodes a count P (get_or xs a.node no_node)
action_counted {s = s} {a} {P = P} {xs} f count h =
    record { whole = f.whole; counted = h s P (get_or xs a.node no_node) (fact_listed f.whole) }

-- ── one place more ──
module _ {classes : List ℕ} {P : Protocol} {xs : List Node} where
  pub numbered_none : NumberedTo classes 0 P xs
  numbered_none = record { each = λ q l. absurd (omega arith) }

  pub numbered_more :
      (e j v : ℕ) → j < stride → NumberedTo classes (stride * e + j) P xs → stride * e + j < length classes
      → v ≡ argument_number (get_or (actions_in P xs) e no_fact) j → NumberedTo (set classes (stride * e + j) v) (stride * e + (j + 1)) P xs
  numbered_more e j v b t room h = record {
    each = λ q l.
        by_order q (stride * e + j)
        (λ a. get_or-set_other classes (stride * e + j) q v 0 (λ z. omega arith) ∙ t.each q a)
        (λ a.
        let d : q / stride ≡ e = omega arith in
        let m : q % stride ≡ j = omega arith in
        ap (λ (i : ℕ). get_or (set classes (stride * e + j) v) i 0) a ∙ get_or-set_same classes (stride * e + j) v 0 room ∙ h
        ∙ sym (ap₂ (λ (i k : ℕ). argument_number (get_or (actions_in P xs) i no_fact) k) d m))
        (λ a. absurd (omega arith));
  }

  pub numbered_at : (m n : ℕ) → m ≡ n → NumberedTo classes m P xs → NumberedTo classes n P xs
  numbered_at m n e = subst (λ (k : ℕ). NumberedTo classes k P xs) e

-- ── of listed entries ──
module _ {p s nodes entries : List ℕ} {P : Protocol} {xs : List Node} (l : Listed p s nodes entries P xs) where
  pub listed_action : (e : ℕ) → e < length (actions_in P xs) → (a : FactId) → a ≡ action_id (get_or entries e 0) → ActionOf p s nodes a e P xs
  listed_action e less a h =
      subst (λ (b : FactId). ActionOf p s nodes b e P xs) (sym h) (record {
        whole = record {
          node = node_in l.right.stand _ (l.each e less).node;
          right = all_inside (NodeRight P) no_node xs l.right.right _ (l.each e less).node;
          listed = (l.each e less).listed;
          has = tt;
        };
        is = (l.each e less).fact;
      })
