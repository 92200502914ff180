-- What the code finds for a rule number: the rule's bytes, written out; its place in the protocol file; or no rule.
use Rattle.std.specs.Prelude.{ℕ, ◌+◌, ◌-◌, ◌≤◌, ◌<◌, List, ◌≡◌, length, get_or, ltb}
use Rattle.std.specs.Prelude.{Option, Some, None}
use Rattle.std.proofs.Math.Path.{ap}
use Rattle.std.proofs.Common.{sym, ◌∙◌, subst, arith, lt-ltb, le-ltb}
use Rattle.lists.specs.Choice.{pick, by_size}
use Rattle.lists.specs.All.{All}
use Rattle.lists.specs.Lists.Laws.{at_inside, at_outside}
use Rattle.term.specs.Arity.{arity, tag_arities, undeclared}
use Rattle.term.specs.Arity.Laws.{slot_inside, arity_none, arity_some}
use Rattle.protocol.specs.Protocol.{Rule, Protocol, empty_rule, encode_rule, rule}
use Rattle.protocol.specs.Places.{Here}
use Rattle.protocol.specs.Index.{Placed}
use Rattle.rules.specs.declared.numbered.FoundRule.{FoundRule}
use Rattle.rules.specs.declared.numbered.FoundRule.TheVariants as fd
use Rattle.rules.specs.Numbered.{fixed, applies, applied, Numbered, a_fixed, an_apply, an_own, numbered, rule_as, rule_of}
use Rattle.rules.specs.Numbered.Slots.{slot_of}
use Rattle.rules.specs.Numbered.Map.{number_fixed}
use Rattle.rules.specs.Numbered.Limits.{Slot, takes, empty, slot_at}
use Rattle.rules.specs.Numbered.Writing.{Holds}

-- ── an apply-rule ──
pub record AppliedAs (arities : List ℕ) (t len : ℕ) (out : List ℕ) : Type 0 where
  pub arguments : ℕ
  pub declared : arity arities t ≡ Some arguments
  pub holds : Holds out len (encode_rule (applies t arguments))

abbrev pub Applies : List ℕ → ℕ → Option FoundRule → List ℕ → Type 0
Applies arities t (Some (fd.Written len)) out = AppliedAs arities t len out
Applies arities t (Some (fd.At place)) out = ⊥
Applies arities t None out = arity arities t ≡ None

module _ (fs arities : List ℕ) (small : All (λ a. a < 5) fs) (same : arities ≡ tag_arities fs) (t : ℕ) (inside : t < length arities) where
  slot_is : get_or arities t 0 ≡ get_or (tag_arities fs) t undeclared
  slot_is = slot_inside arities t inside ∙ ap (λ (l : List ℕ). get_or l t undeclared) same

  pub slot_taken : 3 ≤ t → get_or arities t 0 ≤ 4 → arity (tag_arities fs) t ≡ Some (get_or arities t 0)
  slot_taken h k = arity_some (tag_arities fs) t h (λ e. omega (arith, slot_is)) ∙ ap Some (sym slot_is)

  left_empty : (a : ℕ) → Slot a → 4 < a → a ≡ undeclared
  left_empty a (takes h) k = absurd (omega arith)
  left_empty a (empty h) k = h

  pub slot_left : 4 < get_or arities t 0 → arity (tag_arities fs) t ≡ None
  slot_left k =
      arity_none (tag_arities fs) t
      (left_empty (get_or (tag_arities fs) t undeclared) (slot_at fs small t) (omega (arith, slot_is)))

-- ── a rule of the protocol's own ──
unfoldable pub place_found : List ℕ → ℕ → ℕ → Option FoundRule
place_found places n k = pick (ltb k n) (Some (fd.At (get_or places k 0))) None

module _ (places : List ℕ) (n k : ℕ) where
  pub place_found_lem : k < n → place_found places n k ≡ Some (fd.At (get_or places k 0))
  unfolding place_found
  place_found_lem h = simp (lt-ltb k n h)

  pub place_none : n ≤ k → place_found places n k ≡ None
  unfolding place_found
  place_none h = simp (le-ltb k n h)

-- ── the rule of a number ──
pub record WrittenAs (p : Protocol) (n len : ℕ) (out : List ℕ) : Type 0 where
  pub its : Rule
  pub is : rule_of p n ≡ Some its
  pub has_slot : slot_of n < slot_of (n + 1)
  pub holds : Holds out len (encode_rule its)

pub record PlacedAs (p : Protocol) (file arities ars : List ℕ) (n place : ℕ) : Type 0 where
  pub its : Rule
  pub is : rule_of p n ≡ Some its
  pub here : Here (rule file arities ars) its place

abbrev pub Finds : Protocol → List ℕ → List ℕ → List ℕ → ℕ → Option FoundRule → List ℕ → Type 0
Finds p file arities ars n (Some (fd.Written len)) out = WrittenAs p n len out
Finds p file arities ars n (Some (fd.At place)) out = PlacedAs p file arities ars n place
Finds p file arities ars n None out = rule_of p n ≡ None

module _ (p : Protocol) (n : ℕ) where
  -- what its number stands for
  pub of_number : (k : Numbered) → numbered n ≡ k → rule_of p n ≡ rule_as p k
  unfolding rule_of
  of_number k e = ap (rule_as p) e

  pub of_fixed : n < 5 → rule_of p n ≡ Some (fixed n)
  of_fixed h = of_number (a_fixed n) (number_fixed n h)

  module _ (file slots' ars out : List ℕ) where
    pub finds_applied :
        (t : ℕ) → numbered n ≡ an_apply t → slot_of n < slot_of (n + 1) → (r : Option FoundRule) → Applies (tag_arities p.functions) t r out
        → Finds p file slots' ars n r out
    finds_applied t e k (Some (fd.Written len)) a =
        record { its = applies t a.arguments; is = of_number (an_apply t) e ∙ ap (applied t) a.declared; has_slot = k; holds = a.holds }
    finds_applied t e k (Some (fd.At place)) a = absurd a
    finds_applied t e k None a = of_number (an_apply t) e ∙ ap (applied t) a

    pub finds_own :
        (places : List ℕ) (nr : ℕ) → Placed (rule file slots' ars) empty_rule places p.rules nr → numbered n ≡ an_own (n - 31) → (r : Option FoundRule)
        → r ≡ place_found places nr (n - 31) → Finds p file slots' ars n r out
    finds_own places nr q h r e =
        by_size (n - 31) nr
        (λ l. subst (λ (x : Option FoundRule). Finds p file slots' ars n x out) (sym (e ∙ place_found_lem places nr (n - 31) l))
        record {
          its = get_or p.rules (n - 31) empty_rule;
          is = of_number (an_own (n - 31)) h ∙ at_inside empty_rule p.rules (n - 31) (omega (arith, q.count));
          here = q.each (n - 31) l;
        })
        (λ l. subst (λ (x : Option FoundRule). Finds p file slots' ars n x out) (sym (e ∙ place_none places nr (n - 31) l))
        (of_number (an_own (n - 31)) h ∙ at_outside p.rules (n - 31) (omega (arith, q.count))))
